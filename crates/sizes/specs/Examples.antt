use Rattle.std.specs.Prelude.{◌≡◌, ◌-◌, ◌^◌, refl}
use Rattle.sizes.specs.declared.TheConstants.{ADDRESS_END, FRAME_ORDER, FRAME_UNITS, LAST_SPACE, LINE_BYTES, MOST_FILE_BYTES, MOST_FILE_NAME, MOST_FRAMES, MOST_IMAGE_PAGES, MOST_REGION_FRAMES, MOST_REGION_LINES, MOST_SCRIPT_BYTES, MOST_SCRIPT_LINES, MOST_SPACE_PAGES, MOST_UNITS, MOST_WRITTEN, PAGE_BYTES, PAGE_END, PAGE_LINES, STACK_ADDRESS, STACK_PAGE, STACK_PAGES, STACK_POINTER, TABLE_SLOTS, UNIT_LINES}

-- The sizes as numbers. Contracts cite the constants by name; here the checker computes what each one is.

-- A line, a page and a frame, as in Seshadri and others, Page Overlays, ISCA 2015: 64 lines of 64 bytes; a unit is 256 bytes.

pub line_bytes_is : LINE_BYTES ≡ 64
line_bytes_is = refl

pub page_lines_is : PAGE_LINES ≡ 64
page_lines_is = refl

pub page_bytes_is : PAGE_BYTES ≡ 4096
page_bytes_is = refl

pub unit_lines_is : UNIT_LINES ≡ 4
unit_lines_is = refl

pub frame_units_is : FRAME_UNITS ≡ 16
frame_units_is = refl

pub frame_order_is : FRAME_ORDER ≡ 4
frame_order_is = refl

-- What there may be at most.

pub most_frames_is : MOST_FRAMES ≡ 65536
most_frames_is = refl

pub most_units_is : MOST_UNITS ≡ 1048576
most_units_is = refl

pub most_region_frames_is : MOST_REGION_FRAMES ≡ 65537
most_region_frames_is = refl

pub most_region_lines_is : MOST_REGION_LINES ≡ 4194368
most_region_lines_is = refl

pub last_space_is : LAST_SPACE ≡ 32767
last_space_is = refl

pub most_space_pages_is : MOST_SPACE_PAGES ≡ 131072
most_space_pages_is = refl

pub most_image_pages_is : MOST_IMAGE_PAGES ≡ 65536
most_image_pages_is = refl

pub most_file_name_is : MOST_FILE_NAME ≡ 255
most_file_name_is = refl

pub most_file_bytes_is : MOST_FILE_BYTES ≡ 16777216
most_file_bytes_is = refl

pub most_script_bytes_is : MOST_SCRIPT_BYTES ≡ 1048576
most_script_bytes_is = refl

pub most_script_lines_is : MOST_SCRIPT_LINES ≡ 65536
most_script_lines_is = refl

pub most_written_is : MOST_WRITTEN ≡ 4096
most_written_is = refl

-- User addresses, page numbers, and the stack. A node of a page table has a slot for each value of nine bits of a page's number, as in the
-- Sv39 to Sv57 tables of the RISC-V Privileged ISA.

pub address_end_is : ADDRESS_END ≡ 2 ^ 38
address_end_is = refl

pub page_end_is : PAGE_END ≡ 2 ^ 26
page_end_is = refl

pub table_slots_is : TABLE_SLOTS ≡ 512
table_slots_is = refl

pub stack_pages_is : STACK_PAGES ≡ 16
stack_pages_is = refl

pub stack_page_is : STACK_PAGE ≡ 2 ^ 26 - 16
stack_page_is = refl

pub stack_address_is : STACK_ADDRESS ≡ 2 ^ 38 - 65536
stack_address_is = refl

pub stack_pointer_is : STACK_POINTER ≡ 2 ^ 38 - 16
stack_pointer_is = refl

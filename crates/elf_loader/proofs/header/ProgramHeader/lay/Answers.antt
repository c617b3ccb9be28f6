use Rattle.std.proofs.Common.{◌*◌, arith}
use Rattle.elf_loader.proofs.Places.{laid}
use Rattle.elf_loader.proofs.header.ProgramHeader.lay.Goals as goal

pub returns-then-start-end : goal.returns-then-start-end
returns-then-start-end c i in_page =
    let header = c.args.self.now in
    laid c.args.out.now c.args.file.now c.copy_from_slice.new.self (4096 * c.args.page) header.address header.file_size header.offset _ _ _ _ i
    (omega arith) (omega arith) (omega arith) (omega arith) c.copy_from_slice.ensures.after (omega arith) (omega arith) (omega arith) in_page

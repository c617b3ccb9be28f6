use Rattle.std.specs.Prelude.{◌≡◌, refl}
use Rattle.script_text.specs.declared.TheConstants.{MOST_CHECKPOINT_NAME, MOST_DUMPED, MOST_PAGES, MOST_POKED, MOST_TURNS, MOST_WORDS, PC_NUMBER}

-- The limits of the script language as numbers, as docs/GUIDE.md tells them.

pub most_turns_is : MOST_TURNS ≡ 10000000
most_turns_is = refl

pub most_pages_is : MOST_PAGES ≡ 65536
most_pages_is = refl

pub most_dumped_is : MOST_DUMPED ≡ 65536
most_dumped_is = refl

pub most_poked_is : MOST_POKED ≡ 4096
most_poked_is = refl

pub most_words_is : MOST_WORDS ≡ 4096
most_words_is = refl

pub most_checkpoint_name_is : MOST_CHECKPOINT_NAME ≡ 32
most_checkpoint_name_is = refl

-- the registers are x0 to x31, and the pc comes behind them
pub pc_number_is : PC_NUMBER ≡ 32
pc_number_is = refl

use Rattle.std.proofs.Common.{◌≡◌, ℕ, ◌≤◌, ◌-◌, ◌^◌, ◌&&◌, nat_le, nat_eq, refl, Bool, true, false, cond, List, [], ◌∷◌, length, drop, codes, subst, arith, Option, Some, None}
use Rattle.std.specs.Option.{IfSome, option_and_then, option_map_or, option_or}
use Rattle.std.specs.List.{list_all}
use Rattle.std.proofs.lemmas.Bool.{and_parts}
use Rattle.std.proofs.lemmas.Bool.Decides.{nat_tests}
use lib.Pointwise.{pointwise}
use Rattle.ovl_io.specs.Outside.{HasName}
use Rattle.ovl_io.specs.declared.perms.Perms.{Perms}
use Rattle.script_text.specs.declared.TheConstants.{MOST_CHECKPOINT_NAME, MOST_DUMPED, MOST_PAGES, MOST_TURNS, MOST_WORDS, PC_NUMBER}
use Rattle.sizes.specs.declared.TheConstants.{LAST_SPACE, MOST_FILE_NAME}
use Rattle.script_text.specs.declared.command.Command.{Command}
use Rattle.script_text.specs.declared.command.Command.TheVariants.{Exec, Load, Asm, Fork, Run, Step, Checkpoint, Restore, Forget, Export, Import, Speculate, Commit, Discard, Promote, PromoteAll, Drop}
use Rattle.script_text.specs.declared.command.Command.TheVariants as command
use Rattle.script_text.specs.declared.command.Meaning.TheVariants.{Does, Nothing, Outside}
use Rattle.script_text.specs.Words.{words_of}
use Rattle.script_text.specs.Lines.{without_return}
use Rattle.script_text.specs.Numbers.{within, number_between, number_in}
use Rattle.script_text.specs.Kinds.{Kind, is_file_name, file_word, is_name_byte, is_checkpoint_name, checkpoint_word, turns_word, process_word, address_word, begins_with, has_leading_zero, register_word, pages_word, perms_of_bits, is_text, perms_word, dumped_word, words_word, is_hex, bytes_of_pairs, hex_word, is_all, all_word}
use Rattle.script_text.specs.Forms.{Form, forms, no_words, one_word, two_words, three_words, word_then, made_by, command_of}
use Rattle.script_text.specs.Script.{is_comment, meaning_of_words, meaning_of}
use Rattle.script_text.specs.FormLaws.{◌beside◌}
use Rattle.script_text.specs.Given.{IsGiven, IsTurns, IsProcess, IsAddress, IsRegister, IsPages, IsPerms, IsCheckpoint, IsDumped, IsPoked, IsWords}
use Rattle.script_text.proofs.Pairs.{paired}

-- Each command of a script has its values in the ranges of their kinds.

-- what a kind gives

where_true : {A : Type 0} (P : A → Type 0) (t : Bool) (a : A) → (t ≡ true → P a) → IfSome (cond t (Some a) None) P
where_true P true a h = h refl
where_true P false a h = tt

named : (word : List ℕ) → is_file_name word ≡ true → HasName word
named word h =
    let lengths = and_parts (nat_le 1 (length word) && nat_le (length word) MOST_FILE_NAME) (list_all (λ b. nat_le 33 b && nat_le b 126) word) h in
    let both = and_parts (nat_le 1 (length word)) (nat_le (length word) MOST_FILE_NAME) lengths.0 in
    (grind (arith, nat_tests), grind (arith, nat_tests))

file_given : (word : List ℕ) → IfSome (file_word word) HasName
file_given word = where_true HasName (is_file_name word) word (named word)

checkpoint_named : (word : List ℕ) → is_checkpoint_name word ≡ true → IsCheckpoint word
checkpoint_named word h =
    let lengths = and_parts (nat_le 1 (length word) && nat_le (length word) MOST_CHECKPOINT_NAME) (list_all (λ b. is_name_byte b) word) h in
    let both = and_parts (nat_le 1 (length word)) (nat_le (length word) MOST_CHECKPOINT_NAME) lengths.0 in
    (grind (arith, nat_tests), grind (arith, nat_tests))

checkpoint_given : (word : List ℕ) → IfSome (checkpoint_word word) IsCheckpoint
checkpoint_given word = where_true IsCheckpoint (is_checkpoint_name word) word (checkpoint_named word)

in_range : (least most : ℕ) (o : Option ℕ) → IfSome (within least most o) (λ n. (least ≤ n) × (n ≤ most))
in_range least most None = tt
in_range least most (Some n) =
    where_true (λ m. (least ≤ m) × (m ≤ most)) (nat_le least n && nat_le n most) n
    (λ h. let parts = and_parts (nat_le least n) (nat_le n most) h in (grind (arith, nat_tests), grind (arith, nat_tests)))

turns_given : (word : List ℕ) → IfSome (turns_word word) IsTurns
turns_given word = in_range 1 MOST_TURNS (number_in word)

process_given : (word : List ℕ) → IfSome (process_word word) IsProcess
process_given word = in_range 1 LAST_SPACE (number_in word)

below : (o : Option ℕ) → IfSome o (λ n. (0 ≤ n) × (n ≤ 2 ^ 64 - 1)) → IfSome o IsAddress
below None h = tt
below (Some n) h = omega (arith, h.1)

address_given : (word : List ℕ) → IfSome (address_word word) IsAddress
address_given word = below (address_word word) (in_range 0 (2 ^ 64 - 1) (number_in word))

numbered : (o : Option ℕ) → IfSome o (λ n. (0 ≤ n) × (n ≤ 31)) → IfSome o IsRegister
numbered None h = tt
numbered (Some n) h = omega (arith, h.1)

by_name : (pc x zero : Bool) (o : Option ℕ) → IfSome o IsRegister → IfSome (cond pc (Some PC_NUMBER) (cond x (cond zero None o) None)) IsRegister
by_name true x zero o h = omega arith
by_name false false zero o h = tt
by_name false true true o h = tt
by_name false true false o h = h

register_given : (word : List ℕ) → IfSome (register_word word) IsRegister
register_given word =
    let digits = drop 1 word in
    by_name (is_text word (codes "pc")) (begins_with word (codes "x")) (has_leading_zero digits) (number_between 0 31 digits)
    (numbered (number_between 0 31 digits) (in_range 0 31 (number_in digits)))

pages_given : (word : List ℕ) → IfSome (pages_word word) IsPages
pages_given word = in_range 1 MOST_PAGES (number_in word)

dumped_given : (word : List ℕ) → IfSome (dumped_word word) IsDumped
dumped_given word = in_range 1 MOST_DUMPED (number_in word)

words_given : (word : List ℕ) → IfSome (words_word word) IsWords
words_given word = in_range 1 MOST_WORDS (number_in word)

hex_given : (word : List ℕ) → IfSome (hex_word word) IsPoked
hex_given word = where_true IsPoked (is_hex word) (bytes_of_pairs word) (paired word)

or_else : (t : Bool) (bits : ℕ) (o : Option Perms) → IsPerms (perms_of_bits bits) → IfSome o IsPerms → IfSome (cond t (Some (perms_of_bits bits)) o) IsPerms
or_else true bits o h k = h
or_else false bits o h k = k

perms_given : (word : List ℕ) → IfSome (perms_word word) IsPerms
perms_given word =
    or_else (is_text word (codes "r")) 4 _ refl (or_else (is_text word (codes "rw")) 6 _ refl (or_else (is_text word (codes "x")) 1 _ refl
    (or_else (is_text word (codes "rx")) 5 _ refl (or_else (is_text word (codes "rwx")) 7 None refl tt))))

-- the word `all` says nothing more
abbrev IsNamed : Unit {0} → Type 0
IsNamed all = Unit {0}

all_given : (word : List ℕ) → IfSome (all_word word) IsNamed
all_given word = where_true IsNamed (is_all word) tt (λ h. tt)

-- what a row gives

none_given : (command : Command) → IsGiven command → (ws : List (List ℕ)) → IfSome (no_words command ws) IsGiven
none_given command given [] = given
none_given command given (w ∷ ws) = tt

said_given : {A : Type 0} (P : A → Type 0) (o : Option A) (make : A → Option Command) → IfSome o P → ((a : A) → P a → IfSome (make a) IsGiven)
    → IfSome (option_and_then make o) IsGiven
said_given P None make h given = tt
said_given P (Some a) make h given = given a h

then_given : {A : Type 0} (P : A → Type 0) (kind : Kind A) (make : A → List (List ℕ) → Option Command) → ((w : List ℕ) → IfSome (kind w) P)
    → ((a : A) → P a → (ws : List (List ℕ)) → IfSome (make a ws) IsGiven) → (ws : List (List ℕ)) → IfSome (word_then kind make ws) IsGiven
then_given P kind make has given [] = tt
then_given P kind make has given (w ∷ ws) = said_given P (kind w) (λ a. make a ws) (has w) (λ a h. given a h ws)

one_given : {A : Type 0} (P : A → Type 0) (kind : Kind A) (make : A → Command) → ((w : List ℕ) → IfSome (kind w) P) → ((a : A) → P a → IsGiven (make a))
    → (ws : List (List ℕ)) → IfSome (one_word kind make ws) IsGiven
one_given P kind make has given = then_given P kind (λ a. no_words (make a)) has (λ a h. none_given (make a) (given a h))

two_given : {A B : Type 0} (P : A → Type 0) (Q : B → Type 0) (kind : Kind A) (other : Kind B) (make : A → B → Command) → ((w : List ℕ) → IfSome (kind w) P)
    → ((w : List ℕ) → IfSome (other w) Q) → ((a : A) (b : B) → P a → Q b → IsGiven (make a b)) → (ws : List (List ℕ)) → IfSome (two_words kind other make ws) IsGiven
two_given P Q kind other make has also given =
    then_given P kind (λ a. one_word other (make a)) has (λ a h. one_given Q other (make a) also (λ b k. given a b h k))

-- a process, an address, and a word of some kind
at_address : {A : Type 0} (P : A → Type 0) (kind : Kind A) (make : ℕ → ℕ → A → Command) → ((w : List ℕ) → IfSome (kind w) P)
    → ((p a : ℕ) (b : A) → IsProcess p → IsAddress a → P b → IsGiven (make p a b)) → (ws : List (List ℕ))
    → IfSome (three_words process_word address_word kind make ws) IsGiven
at_address P kind make has given ws =
    then_given IsProcess process_word (λ p. two_words address_word kind (make p)) process_given
    (λ p h. two_given IsAddress P address_word kind (make p) address_given has (λ a b k l. given p a b h k l)) ws

-- what the table gives

abbrev AllGive : List Form → Type 0
AllGive [] = Unit {0}
AllGive (f ∷ fs) = ((ws : List (List ℕ)) → IfSome (f.makes ws) IsGiven) × AllGive fs

either_given : (t : Bool) (o p : Option Command) → IfSome o IsGiven → IfSome p IsGiven → IfSome (option_or (cond t o None) p) IsGiven
either_given true None p h k = k
either_given true (Some c) p h k = h
either_given false o p h k = k

made_given : (fs : List Form) (first : List ℕ) (words : List (List ℕ)) → AllGive fs → IfSome (made_by fs first words) IsGiven
made_given [] first words h = tt
made_given (f ∷ fs) first words h =
    either_given (pointwise nat_eq first f.first) (f.makes words) (made_by fs first words) (h.0 words) (made_given fs first words h.1)

all_give : AllGive forms
all_give =
    two_given HasName IsTurns file_word turns_word Exec file_given turns_given (λ a b h k. (h, k))
    beside one_given HasName file_word Load file_given (λ a h. h)
    beside one_given HasName file_word Asm file_given (λ a h. h)
    beside one_given IsProcess process_word Fork process_given (λ a h. h)
    beside one_given IsTurns turns_word Run turns_given (λ a h. h)
    beside two_given IsProcess IsTurns process_word turns_word Step process_given turns_given (λ a b h k. (h, k))
    beside two_given IsProcess IsCheckpoint process_word checkpoint_word Checkpoint process_given checkpoint_given (λ a b h k. (h, k))
    beside two_given IsProcess IsCheckpoint process_word checkpoint_word Restore process_given checkpoint_given (λ a b h k. (h, k))
    beside one_given IsCheckpoint checkpoint_word Forget checkpoint_given (λ a h. h)
    beside two_given IsCheckpoint IsCheckpoint checkpoint_word checkpoint_word Export checkpoint_given checkpoint_given (λ a b h k. (h, k))
    beside then_given IsCheckpoint checkpoint_word (λ a. two_words checkpoint_word file_word (Import a)) checkpoint_given
    (λ a h. two_given IsCheckpoint HasName checkpoint_word file_word (Import a) checkpoint_given file_given (λ b f k l. (h, k, l)))
    beside one_given IsProcess process_word Speculate process_given (λ a h. h)
    beside one_given IsProcess process_word Commit process_given (λ a h. h)
    beside one_given IsProcess process_word Discard process_given (λ a h. h)
    beside two_given IsProcess IsAddress process_word address_word Promote process_given address_given (λ a b h k. (h, k))
    beside two_given IsProcess IsNamed process_word all_word (λ p all. PromoteAll p) process_given all_given (λ a b h k. h)
    beside then_given IsProcess process_word (λ p. three_words address_word process_word address_word (command.Dedup p)) process_given
    (λ p h. then_given IsAddress address_word (λ a. two_words process_word address_word (command.Dedup p a)) address_given
    (λ a k. two_given IsProcess IsAddress process_word address_word (command.Dedup p a) process_given address_given (λ q b l m. (h, k, l, m))))
    beside then_given IsProcess process_word (λ p. two_words all_word process_word (λ all q. command.DedupAll p q)) process_given
    (λ p h. two_given IsNamed IsProcess all_word process_word (λ all q. command.DedupAll p q) all_given process_given (λ all q k l. (h, l)))
    beside none_given _ tt
    beside then_given IsProcess process_word (λ p. three_words address_word pages_word perms_word (command.Map p)) process_given
    (λ p h. then_given IsAddress address_word (λ a. two_words pages_word perms_word (command.Map p a)) address_given
    (λ a k. two_given IsPages IsPerms pages_word perms_word (command.Map p a) pages_given perms_given (λ n o l m. (h, k, l, m))))
    beside at_address IsPages pages_word command.Unmap pages_given (λ p a b h k l. (h, k, l))
    beside one_given IsProcess process_word Drop process_given (λ a h. h)
    beside one_given IsProcess process_word command.Regs process_given (λ a h. h)
    beside at_address IsDumped dumped_word command.Dump dumped_given (λ p a b h k l. (h, k, l))
    beside at_address IsPoked hex_word command.Poke hex_given (λ p a b h k l. (h, k, l))
    beside then_given IsProcess process_word (λ p. two_words register_word address_word (command.Set p)) process_given
    (λ p h. two_given IsRegister IsAddress register_word address_word (command.Set p) register_given address_given (λ r a k l. (h, k, l)))
    beside two_given IsProcess IsAddress process_word address_word command.Break process_given address_given (λ a b h k. (h, k))
    beside two_given IsProcess IsAddress process_word address_word command.Unbreak process_given address_given (λ a b h k. (h, k))
    beside at_address IsWords words_word command.Disasm words_given (λ p a b h k l. (h, k, l))
    beside none_given _ tt
    beside none_given _ tt
    beside tt

-- what a line gives

from_option : (t : Bool) (o : Option Command) (command : Command) → IfSome o IsGiven → Does command ≡ cond t Nothing (option_map_or Does o Outside) → IsGiven command
from_option true o command h is = cc
from_option false None command h is = cc
from_option false (Some c) command h is = let same : c ≡ command = cc in subst IsGiven same h

given_words : (words : List (List ℕ)) (command : Command) → Does command ≡ meaning_of_words words → IsGiven command
unfolding meaning_of_words command_of
given_words [] command is = cc
given_words (first ∷ words) command is =
    from_option (is_comment first) (command_of first words) command (made_given forms first words all_give) is

pub command_given : (line : List ℕ) (command : Command) → Does command ≡ meaning_of line → IsGiven command
unfolding meaning_of
command_given line command is = given_words (words_of (without_return line)) command is

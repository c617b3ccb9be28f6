use Rattle.std.proofs.Common.{◌≡◌, Bool, false, IsTrue, rules}
use Rattle.ovl_io.specs.Forms.{is_among}
use Rattle.ovl_io.proofs.memory_shelf.MemoryShelfShelf.fetch.Goals as goal

-- a test isn't both false and true
not_both : {P : Type 0} (b : Bool) → b ≡ false → IsTrue b → P
not_both b failed passed = cc

pub returns-in-Some-clause-listed : goal.returns-in-Some-clause-listed
returns-in-Some-clause-listed c h =
    not_both (is_among c.args.self.now.fails c.args.self.now.calls) (search rules) h

pub returns-in-None-clause-listed : goal.returns-in-None-clause-listed
returns-in-None-clause-listed c h =
    not_both (is_among c.args.self.now.fails c.args.self.now.calls) (search rules) h

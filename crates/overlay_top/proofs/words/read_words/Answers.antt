use Rattle.std.proofs.Common.{◌∙◌, map, string_bytes, sym}
use Rattle.overlay_top.proofs.Readings.{set_by, unread}
use Rattle.overlay_top.proofs.words.read_words.Goals as goal

pub returns-in-Some-clause-reads : goal.returns-in-Some-clause-reads
returns-in-Some-clause-reads c = set_by (map string_bytes c.args.words.now) c.in-Ok.matches c.in-Ok.ensures ∙ sym c.settings_in.ensures.value ∙ c.in-Some.is

pub returns-in-Ok-clause-reads : goal.returns-in-Ok-clause-reads
returns-in-Ok-clause-reads c = set_by (map string_bytes c.args.words.now) c.in-Ok.matches c.in-Ok.ensures ∙ sym c.settings_in.ensures.value ∙ c.in-None.is

pub returns-clause-reads : goal.returns-clause-reads
returns-clause-reads c = unread (map string_bytes c.args.words.now) c.in-Err.error c.in-Err.ensures

use Rattle.workload.proofs.Fields.{all_laid}
use Rattle.workload.proofs.file.made_file.Goals as goal

pub returns : goal.returns
returns c =
    all_laid c.new-file.result.items c.push_fields.new.file.items c.push_fields-2.new.file.items c.push_fields-3.new.file.items c.push_fields-4.new.file.items
    c.program_header.result c.program_header-2.result c.new-file.ensures.items c.program_header.ensures c.program_header-2.ensures
    c.in_ok-push_fields.ensures c.in_ok-push_fields-2.ensures c.in_ok-push_fields-3.ensures c.in_ok-push_fields-4.ensures

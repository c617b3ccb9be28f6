use Rattle.delta_image.proofs.Images.{decodes_alone, decodes_few, decodes_pages, decodes_said}
use Rattle.delta_image.proofs.decoding.decode.Goals as goal

pub returns-clause-only : goal.returns-clause-only
returns-clause-only c = decodes_alone c.args.bytes.now c.image_at.result c.image_at.ensures

pub returns-clause-few : goal.returns-clause-few
returns-clause-few c = decodes_few c.args.bytes.now c.image_at.result c.image_at.ensures

pub returns-clause-pages : goal.returns-clause-pages
returns-clause-pages c = decodes_pages c.args.bytes.now c.image_at.result c.image_at.ensures

pub returns-clause-said : goal.returns-clause-said
returns-clause-said c = decodes_said c.args.bytes.now c.image_at.result c.image_at.ensures

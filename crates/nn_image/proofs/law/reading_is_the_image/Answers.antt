use Rattle.nn_image.proofs.Images.{image_read, read_is_image}
use Rattle.nn_image.proofs.law.reading_is_the_image.Goals as goal

pub returns-clause-reads : goal.returns-clause-reads
returns-clause-reads c = image_read

pub returns-clause-only : goal.returns-clause-only
returns-clause-only c = read_is_image

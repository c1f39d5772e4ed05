-- The answer to the refusal explains why the file is no image.
use Rattle.commands.proofs.WhyLemmas.{image_explained}
use Rattle.commands.proofs.files.image_in.Goals as goal

pub returns-in-Err-clause-told : goal.returns-in-Err-clause-told
returns-in-Err-clause-told c = image_explained _ _ _ _ _ c.in-Err.ensures.refused c.in-Err.ensures.image c.bad_image.ensures.told

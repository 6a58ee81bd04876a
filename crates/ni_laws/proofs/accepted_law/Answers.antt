use Rattle.std.proofs.Common.{sym, ◌∙◌, subst}
use Rattle.image_form.specs.Image.{Image}
use Rattle.image_form.proofs.Laws.{spelling_is_one}
use Rattle.conf_verify.specs.Verdict.{IsAcceptedImage}
use Rattle.ni_laws.proofs.Law.{image_bytes, law_of_image}
use Rattle.ni_laws.proofs.accepted_law.Goals as goal

pub returns : goal.returns
returns c = λ bytes are accepted image shared mine yours schedule is.
    let P : Image → Type 0 = λ x. IsAcceptedImage x in
    let same = spelling_is_one accepted.image image accepted.is.good is.good (sym accepted.is.spelled ∙ is.spelled) in
    law_of_image image (subst P same accepted.accepted) is.good (image_bytes bytes image are is) shared mine yours schedule

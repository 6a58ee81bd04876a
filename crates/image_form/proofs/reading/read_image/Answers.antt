use Rattle.std.proofs.Common.{◌≡◌, ℕ, List, Result, Ok, Err, sym, ap, subst, ◌∙◌, arith}
use Rattle.std.specs.Prelude.{IfOk, IfErr, IsOkAnd, OnOk}
use Rattle.cv_word.specs.Words.{AreBytes}
use Rattle.image_form.specs.declared.parts.Parts.{Parts}
use Rattle.image_form.specs.declared.parts.FormFault.{FormFault}
use Rattle.image_form.specs.Image.{Image, IsGood, spelling}
use Rattle.image_form.specs.View.{view}
use Rattle.image_form.specs.Table.{AreGood, IsFault, IsImageFile, fields}
use Rattle.image_form.specs.Reading.{IsFirstWrong, image_in}
use Rattle.image_form.proofs.Fields.{fault_from_first, good_or_first}
use Rattle.image_form.proofs.Spelled.{spelled, good_in, read_again}
use Rattle.image_form.proofs.reading.read_image.Goals as goal

found : (file : List ℕ) (r : Result Parts FormFault) → AreBytes file → OnOk r (AreGood file (fields file)) → IfOk r (λ parts. view parts ≡ image_in file) → IfOk r (λ parts. IsGood (view parts) × (file ≡ spelling (view parts)))
found file (Ok parts) h g e =
    let P : Image → Type 0 = λ image. IsGood image × (file ≡ spelling image) in
    subst P (sym e) (good_in file h g, spelled file h g)
found file (Err fault) h g e = tt

only : (file : List ℕ) (r : Result Parts FormFault) → IfOk r (λ parts. view parts ≡ image_in file) → IfErr r (λ fault. IsFirstWrong file (fields file) fault.place) → (image : Image) → IsGood image → file ≡ spelling image → IsOkAnd r (λ parts. view parts ≡ image)
only file (Ok parts) e f image good s =
    e ∙ (ap image_in s ∙ (read_again image good).image_is)
only file (Err fault) e f image good s =
    let P : List ℕ → Type 0 = λ t. AreGood t (fields t) in
    absurd (good_or_first file (fields file) fault.place (subst P (sym s) (read_again image good).good) f)

faults : (file : List ℕ) (r : Result Parts FormFault) → IfErr r (λ fault. IsFirstWrong file (fields file) fault.place) → IfErr r (λ fault. IsFault file fault.place)
faults file (Ok parts) f = tt
faults file (Err fault) f = fault_from_first file fault.place f

pub returns-clause-found : goal.returns-clause-found
returns-clause-found c = found c.args.bytes.now c.read_fields.result (λ i. omega (arith, c.type_inv.bytes i)) c.read_fields.ensures.good c.read_fields.ensures.parts

pub returns-clause-only : goal.returns-clause-only
returns-clause-only c = only c.args.bytes.now c.read_fields.result c.read_fields.ensures.parts c.read_fields.ensures.fault

pub returns-clause-table : goal.returns-clause-table
unfolding IsImageFile
returns-clause-table c = c.read_fields.ensures.good

pub returns-clause-fault : goal.returns-clause-fault
returns-clause-fault c = faults c.args.bytes.now c.read_fields.result c.read_fields.ensures.fault

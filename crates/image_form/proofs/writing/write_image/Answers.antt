use Rattle.image_form.specs.View.{view}
use Rattle.image_form.proofs.Written.{written}
use Rattle.image_form.proofs.writing.write_image.Goals as goal

pub returns : goal.returns
returns c =
    written (view c.args.parts.now) c.as_slice-entries.result.now _ _ _ _ _ _ _ _ _
    c.as_slice-entries.ensures.value
    c.in_ok-out.ensures.items
    c.in_ok-extend_from_slice.ensures.items
    c.in_ok-extend_from_slice-2.ensures.items
    c.in_ok-extend_from_slice-3.ensures.items
    c.in_ok-put_words.ensures
    c.in_ok-put_words-2.ensures
    c.in_ok-extend_from_slice-4.ensures.items
    c.in_ok-extend_from_slice-5.ensures.items
    c.in_ok-extend_from_slice-6.ensures.items

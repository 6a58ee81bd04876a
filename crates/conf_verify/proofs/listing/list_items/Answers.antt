use Rattle.conf_verify.specs.Answer.{image_of}
use Rattle.conf_verify.proofs.Listings.{result_refusal}
use Rattle.conf_verify.proofs.listing.list_items.Goals as goal

pub returns-clause-refused : goal.returns-clause-refused
returns-clause-refused c =
    result_refusal c.args.bytes.now (image_of c.in_ok-parts.parts) c.listing_of.result c.in_ok-parts.ensures.image c.listing_of.ensures.refused c.listing_of.ensures.rule

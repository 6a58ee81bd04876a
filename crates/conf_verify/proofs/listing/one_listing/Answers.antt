use Rattle.conf_verify.proofs.Listings.{one_code, one_items, no_listing, listed, broken_later}
use Rattle.conf_verify.proofs.listing.one_listing.Goals as goal

pub returns-clause-code : goal.returns-clause-code
returns-clause-code c = one_code

pub returns-clause-items : goal.returns-clause-items
returns-clause-items c = one_items

pub returns-clause-unlisted : goal.returns-clause-unlisted
returns-clause-unlisted c = no_listing

pub returns-clause-refused : goal.returns-clause-refused
returns-clause-refused c = λ bytes rule at v later. broken_later bytes rule at v.broken later

pub returns-clause-accepted : goal.returns-clause-accepted
returns-clause-accepted c = λ bytes ok. listed bytes ok.image ok.accepted.items ok.is ok.accepted.listing

use Rattle.std.proofs.Common.{rules, ◌≡◌, true, Ok, subst}
use Rattle.std.specs.Prelude.{option_copied}
use Rattle.depot_api.specs.Holdings.{Finds}
use Rattle.link_reading.specs.Meaning.{Means}
use Rattle.reg_entries.specs.Listing.{IsListing}
use Rattle.files_service.proofs.AnswerLaws.{tags_listed}
use Rattle.files_service.proofs.tags.list_tags.Goals as goal

pub returns-clause-answer : goal.returns-clause-answer
returns-clause-answer g c =
    let last = option_copied c.args.last in
    let copy : c.in_ok-name.name ≡ c.args.name.now = search rules in
    let there : c.known.result ≡ Ok true = search rules in
    let listed : c.tags.result ≡ Ok (c.in_ok-tags.tags, c.in_ok-tags.more) = search rules in
    let lists = subst (λ held. Finds held c.tags.result (λ files listing. IsListing (Means files) c.args.name.now c.args.n last listing.0 listing.1)) c.known.ensures.reads.held_stays c.tags.ensures.value in
    tags_listed _ c.args.name.now c.in_ok-name.name c.args.n last c.in_ok-tags.tags c.in_ok-tags.more c.known.result c.tags.result copy there c.known.ensures.value listed lists

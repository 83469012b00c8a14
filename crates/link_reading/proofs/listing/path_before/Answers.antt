use Rattle.std.proofs.Common.{◌≡◌, true, sym, subst, ap, ◌∙◌}
use Rattle.std.specs.Prelude.{option_copied}
use Rattle.reg_names.specs.Reading.{ReadsExactly}
use Rattle.reg_names.specs.Tags.{IsTag}
use Rattle.depot_api.specs.Paths.{is_below}
use Rattle.link_paths.specs.Places.{tag_path}
use Rattle.reg_entries.specs.Listing.{is_lesser, is_behind}
use Rattle.link_reading.proofs.ListingLaws.{above_links}
use Rattle.link_reading.proofs.listing.path_before.Goals as goal

pub returns : goal.returns
returns c = λ greater k lies.
    let read = subst (ReadsExactly IsTag c.as_str.result.now) c.in-Some-2.is c.in_ok-tag.ensures in
    let lesser = subst (λ l. is_behind (option_copied l) greater ≡ true) c.in-Some.is lies in
    ap (λ p. is_below p (tag_path c.args.name.now greater)) c.in_ok-tag_index_path.ensures.path
    ∙ above_links c.args.name.now c.in-Some-2.tag _ greater c.tag_index_path.ensures.place.0 (subst IsTag (sym read.0) read.1) c.raw.ensures.digest k (ap (λ t. is_lesser t greater) (read.0 ∙ c.as_str.ensures.bytes) ∙ lesser)

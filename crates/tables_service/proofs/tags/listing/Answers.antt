use Rattle.std.proofs.Common.{◌≡◌, ◌≤◌, length, None, Some, sym, ap, subst, ◌∙◌, arith, true≢false}
use Rattle.std.specs.Prelude.{IfSome, option_copied}
use Rattle.reg_entries.specs.Listing.{IsListing, IsNextTag, AreNextTags, last_of}
use Rattle.reg_entries.proofs.ListingLaws.{next_pushed, lists_whole, lists_cut, room_pushed, some_asked}
use Rattle.reg_journal.specs.Changes.{replay}
use Rattle.reg_journal.specs.Past.{shown}
use Rattle.tables_service.specs.Telling.{TellsJournal}
use Rattle.tables_service.proofs.tags.listing.Goals as goal

pub returns-in_default-clause-value : goal.returns-in_default-clause-value
returns-in_default-clause-value g c = λ journal t.
    let l = c.loop.invariant in
    let state = shown (replay journal) in
    let name = c.args.name.now in
    let last = option_copied c.args.last in
    let found = c.loop.found.items in
    let told = subst (TellsJournal journal) (sym l.kept) t in
    let ended : IsNextTag state name (last_of last found) None = rw (c.in_default.is, c.deref.ensures.value) at (c.in_ok-tag.ensures.value journal told) in
    let whole = lists_whole state name last c.args.n found (some_asked c.args.n c.eq.result c.eq.ensures c.if-eq.false) (l.chain journal t) ended l.room in
    subst (λ ts. IsListing state name c.args.n last ts None) (sym c.from_vec-in_default.ensures) whole

pub returns-then-is_full-clause-value : goal.returns-then-is_full-clause-value
returns-then-is_full-clause-value g c = λ journal t.
    let l = c.loop.invariant in
    let state = shown (replay journal) in
    let name = c.args.name.now in
    let last = option_copied c.args.last in
    let found = c.loop.found.items in
    let told = subst (TellsJournal journal) (sym l.kept) t in
    let next : IsNextTag state name (last_of last found) (Some c.in-Some.tag) = rw (c.in-Some.is, c.deref.ensures.value) at (c.in_ok-tag.ensures.value journal told) in
    let full = c.is_full.ensures.0 c.if-is_full.true ∙ ap (λ ts. Some (length ts)) c.deref-in-loop.ensures.value in
    let cut = lists_cut state name last c.args.n found c.in-Some.tag (some_asked c.args.n c.eq.result c.eq.ensures c.if-eq.false) (l.chain journal t) next full in
    subst (λ ts. IsListing state name c.args.n last ts c.args.n) (sym c.from_vec-then-is_full.ensures) cut

pub loop-preserved : goal.loop-preserved
loop-preserved g c =
    let l = c.loop.invariant in
    let name = c.args.name.now in
    let last = option_copied c.args.last in
    let found = c.loop.found.items in
    let short = λ (e : c.args.n ≡ Some (length found)). true≢false (sym (c.is_full.ensures.1 (e ∙ ap (λ ts. Some (length ts)) (sym c.deref-in-loop.ensures.value))) ∙ c.if-is_full.false) in
    record {
      kept = c.tag_behind.ensures.reads.reads.held_stays ∙ l.kept;
      later = omega (arith, l.later, c.tag_behind.ensures.reads.reads.cause.later);
      room = subst (λ ts. IfSome c.args.n (λ k. length ts ≤ k)) (sym c.in_ok-add.ensures.added) (room_pushed c.args.n found c.in-Some.tag l.room short);
      chain = λ journal t.
          let state = shown (replay journal) in
          let told = subst (TellsJournal journal) (sym l.kept) t in
          let next : IsNextTag state name (last_of last found) (Some c.in-Some.tag) = rw (c.in-Some.is, c.deref.ensures.value) at (c.in_ok-tag.ensures.value journal told) in
          subst (AreNextTags state name last) (sym c.in_ok-add.ensures.added) (next_pushed state name last found c.in-Some.tag (l.chain journal t) next);
    }

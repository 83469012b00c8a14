use Rattle.reg_journal.specs.Legal.{made_at}
use Rattle.reg_journal.specs.declared.entry.What.TheVariants.{Collect, DropLink, Doom}
use Rattle.reg_journal.proofs.JournalLaws.{legal_at}
use Rattle.reg_journal.proofs.laws.collections_take_what_nothing_holds.Goals as goal

pub returns-clause-manifests : goal.returns-clause-manifests
returns-clause-manifests c = λ delay now journal more name digest l.
    let m = (legal_at delay journal more (made_at now (Collect name digest)) l).meets in
    (m.0.untagged, m.0.unlisted)

pub returns-clause-links : goal.returns-clause-links
returns-clause-links c = λ delay now journal more name digest l.
    (legal_at delay journal more (made_at now (DropLink name digest)) l).meets.0

pub returns-clause-digests : goal.returns-clause-digests
returns-clause-digests c = λ delay now journal more digest l.
    let m = (legal_at delay journal more (made_at now (Doom digest)) l).meets in
    (m.0.unlinked, m.0.unnamed)

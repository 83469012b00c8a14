-- Holds one after the other.
use Rattle.std.proofs.Common.{◌≡◌, ℕ, List, [], ◌∷◌, ◌++◌, Option, refl, sym, subst}
use Rattle.depot_api.specs.Ids.{Words}
use Rattle.reg_world.specs.Worlds.{Data}
use Rattle.reg_world.specs.Moves.{Act, Seen}
use Rattle.reg_session.specs.Chains.{Hold, Chain, Own, Brings, BringsAll}
use Rattle.reg_session.specs.Holds.{Held}
use Rattle.reg_session.specs.InnerSteps.{Store, store, Makes}
use Rattle.reg_session.specs.InnerUploads.{Spends}

-- ---- chains

-- the same from what may be followed by more
pub chain_from : (between : Data → Data → Type 0) (w u v : Data) (holds : List Hold)
    → ((next : Data) → between u next → between w next) → Chain between u holds v → Chain between w holds v
chain_from between w u v [] follows chain = λ next x. follows next (chain next x)
chain_from between w u v (h ∷ holds) follows chain = (follows h.found chain.0, chain.1, chain.2)

-- chains one behind the other
pub chain_then : (between : Data → Data → Type 0) (w u v : Data) (first second : List Hold)
    → Chain between w first u → Chain between u second v → Chain between w (first ++ second) v
chain_then between w u v [] second follows more = chain_from between w u v second follows more
chain_then between w u v (h ∷ first) second chain more =
    (chain.0, chain.1, chain_then between h.left u v first second chain.2 more)

pub brings_then : (o : Own) (a b c : Words) (first second : List Hold) → BringsAll o a first b → BringsAll o b second c
    → BringsAll o a (first ++ second) c
brings_then o a b c [] second is more = subst (λ (w : Words). BringsAll o w second c) is more
brings_then o a b c (h ∷ first) second brings more =
    (brings.0, brings.1, brings_then o brings.0 b c first second brings.2 more)

-- ---- one hold

-- the hold that a call made
abbrev pub hold_of : {between : Data → Data → Type 0} {old : Data} {new : Data} (act : Act) (seen : Seen) → Held between old act seen new → Hold
hold_of act seen h = record { act = act; seen = seen; found = h.found; left = h.left }

pub chain_one : (between : Data → Data → Type 0) (old new : Data) (act : Act) (seen : Seen) (h : Held between old act seen new)
    → Chain between old (hold_of act seen h ∷ []) new
chain_one between old new act seen h = (h.before, h.moves, h.behind)

-- and others behind it
pub chain_more : (between : Data → Data → Type 0) (old mid new : Data) (act : Act) (seen : Seen) (holds : List Hold) (h : Held between old act seen mid)
    → Chain between mid holds new → Chain between old (hold_of act seen h ∷ holds) new
chain_more between old mid new act seen holds h chain = (h.before, h.moves, chain_from between h.left mid new holds h.behind chain)

-- ---- what is made of a store

pub makes_none : (between : Data → Data → Type 0) (o : Own) (s : Store) → Makes between o s s []
makes_none between o s = record { chain = λ next x. x; brings = refl }

-- one hold that needs nothing of what a session brings
pub spends_one : (between : Data → Data → Type 0) (old new : Data) (act : Act) (seen : Seen) (h : Held between old act seen new)
    → ((o : Own) (words : Words) → Brings o words act words) → Spends between old new (hold_of act seen h ∷ [])
spends_one between old new act seen h brings = record {
  chain = chain_one between old new act seen h;
  brings = λ o words. (words, brings o words, refl);
}

pub spends_more : (between : Data → Data → Type 0) (old mid new : Data) (act : Act) (seen : Seen) (holds : List Hold) (h : Held between old act seen mid)
    → ((o : Own) (words : Words) → Brings o words act words) → Spends between mid new holds → Spends between old new (hold_of act seen h ∷ holds)
spends_more between old mid new act seen holds h brings more = record {
  chain = chain_more between old mid new act seen holds h more.chain;
  brings = λ o words. (words, brings o words, more.brings o words);
}

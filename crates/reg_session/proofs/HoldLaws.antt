-- Holds of a world that nobody else changes, one after the other.
use Rattle.std.proofs.Common.{◌≡◌, ℕ, ◌+◌, ◌≤◌, List, [], ◌∷◌, ◌++◌, Option, Some, refl, sym, ap, subst, ◌∙◌, arith}
use Rattle.std.specs.Prelude.{IsTrue}
use Rattle.std.specs.List.{AllByRecursion}
use Rattle.reg_names.specs.Cause.{Rose}
use Rattle.reg_names.specs.declared.reference.Reference.{Reference}
use Rattle.depot_api.specs.Ids.{Words, Draws}
use Rattle.manifest_doc.specs.declared.pushed.Pushed.{Pushed}
use Rattle.reg_world.specs.Worlds.{Data}
use Rattle.reg_world.specs.Moves.{Act, starts, pushes, takes, Moves, Move}
use Rattle.reg_session.specs.Chains.{Hold, Chain, Own, Brings, BringsAll}
use Rattle.reg_session.proofs.OneHold.{Same, AreOne, HasMemory, IsSound, one_hold, one_push}

-- nobody else changes the world
abbrev pub Alone : Data → Data → Type 0
Alone before now = now ≡ before

-- ---- lists that are split

pub chain_split : (w v : Data) (first second : List Hold) → Chain Alone w (first ++ second) v
    → (mid : Data) × Chain Alone w first mid × Chain Alone mid second v
chain_split w v [] second chain = (w, λ next same. same, chain)
chain_split w v (h ∷ first) second chain =
    let more = chain_split h.left v first second chain.2 in
    (more.0, (chain.0, chain.1, more.1), more.2)

pub brings_split : (o : Own) (words after : Words) (first second : List Hold) → BringsAll o words (first ++ second) after
    → (mid : Words) × BringsAll o words first mid × BringsAll o mid second after
brings_split o words after [] second brings = (words, refl, brings)
brings_split o words after (h ∷ first) second brings =
    let more = brings_split o brings.0 after first second brings.2 in
    (more.0, (brings.0, brings.1, more.1), more.2)

pub all_split : {A : Type 0} (P : A → Type 0) (first second : List A) → AllByRecursion P (first ++ second) → AllByRecursion P first × AllByRecursion P second
all_split P [] second all = (tt, all)
all_split P (x ∷ first) second all =
    let more = all_split P first second all.1 in
    ((all.0, more.0), more.1)

-- ---- faults

-- the count of faults does not fall
pub chain_later : (w v : Data) (holds : List Hold) → Chain Alone w holds v → w.faults ≤ v.faults
chain_later w v [] chain = omega (arith, ap (λ (d : Data). d.faults) (chain v refl))
chain_later w v (h ∷ holds) chain =
    omega (arith, ap (λ (d : Data). d.faults) chain.0, chain.1.cause.later, chain_later h.left v holds chain.2)

pub calm_front : (a b c : ℕ) → b ≤ c → (Rose a c → ⊥) → Rose a b → ⊥
calm_front a b c later calm rose = calm (omega (arith, later, rose))

pub calm_back : (a b c : ℕ) → a ≤ b → (Rose a c → ⊥) → Rose b c → ⊥
calm_back a b c later calm rose = calm (omega (arith, later, rose))

-- ---- holds where nothing failed

-- holds lead from one world to another, and from the words to come to others, where no device failed and memory was
-- there
pub record Goes (o : Own) (w : Data) (words : Words) (holds : List Hold) (v : Data) (after : Words) : Type 0 where
  pub chain : Chain Alone w holds v
  pub brings : BringsAll o words holds after
  pub calm : Rose w.faults v.faults → ⊥
  pub memory : AllByRecursion (λ (h : Hold). HasMemory h.seen) holds

-- the same of lists one behind the other
pub record GoesTwice (o : Own) (w : Data) (words : Words) (first second : List Hold) (v : Data) (after : Words) : Type 0 where
  pub mid : Data
  pub between : Words
  pub one : Goes o w words first mid between
  pub two : Goes o mid between second v after

pub goes_split : (o : Own) (w v : Data) (words after : Words) (first second : List Hold) → Goes o w words (first ++ second) v after → GoesTwice o w words first second v after
goes_split o w v words after first second g =
    let chains = chain_split w v first second g.chain in
    let brings = brings_split o words after first second g.brings in
    let memory = all_split (λ (h : Hold). HasMemory h.seen) first second g.memory in
    record {
      mid = chains.0;
      between = brings.0;
      one = record {
        chain = chains.1;
        brings = brings.1;
        calm = calm_front w.faults chains.0.faults v.faults (chain_later chains.0 v second chains.2) g.calm;
        memory = memory.0;
      };
      two = record {
        chain = chains.2;
        brings = brings.2;
        calm = calm_back w.faults chains.0.faults v.faults (chain_later w chains.0 first chains.1) g.calm;
        memory = memory.1;
      };
    }

-- one hold in a world
pub record Step (w : Data) (h : Hold) : Type 0 where
  pub tells : h.left.held.tells ≡ w.held.tells
  pub sound : IsSound h.act h.seen
  pub move : Move w h.act h.seen h.left

-- the first of some holds, and those behind it
pub record Opens (o : Own) (w : Data) (words : Words) (h : Hold) (holds : List Hold) (v : Data) (after : Words) : Type 0 where
  pub mid : Words
  pub step : Step w h
  pub brings : Brings o words h.act mid
  pub more : Goes o h.left mid holds v after

pub opens : (o : Own) (w v : Data) (words after : Words) (h : Hold) (holds : List Hold) → Goes o w words (h ∷ holds) v after → Opens o w words h holds v after
opens o w v words after h holds g =
    let moves = subst (λ (d : Data). Moves d h.act h.seen h.left) g.chain.0 g.chain.1 in
    let later = chain_later h.left v holds g.chain.2 in
    record {
      mid = g.brings.0;
      step = record {
        tells = moves.tells;
        sound = record {
          fits = moves.fits;
          calm = λ faulty. calm_front w.faults h.left.faults v.faults later g.calm (moves.cause.rose faulty);
          memory = g.memory.0;
        };
        move = moves.move;
      };
      brings = g.brings.1;
      more = record {
        chain = g.chain.2;
        brings = g.brings.2;
        calm = calm_back w.faults h.left.faults v.faults moves.cause.later g.calm;
        memory = g.memory.1;
      };
    }

-- an act that draws no word
abbrev pub Keeps : Own → Words → Act → Type 0
Keeps o words act = (after : Words) → Brings o words act after → after ≡ words

pub more_kept : (o : Own) (w v : Data) (words after : Words) (h : Hold) (holds : List Hold) → Keeps o words h.act → Opens o w words h holds v after → Goes o h.left words holds v after
more_kept o w v words after h holds keeps k = subst (λ (x : Words). Goes o h.left x holds v after) (keeps k.mid k.brings) k.more

-- behind the last hold
pub goes_end : (o : Own) (w u v z : Data) (words after also : Words) → Same w u → Goes o w words [] v after → Goes o u words [] z also → Same v z × (after ≡ also)
goes_end o w u v z words after also same g k =
    let first : v ≡ w = g.chain v refl in
    let second : z ≡ u = k.chain z refl in (
      record {
        held = ap (λ (d : Data). d.held) first ∙ same.held ∙ sym (ap (λ (d : Data). d.held) second);
        claims = ap (λ (d : Data). d.claims) first ∙ same.claims ∙ sym (ap (λ (d : Data). d.claims) second);
      },
      g.brings ∙ sym k.brings,
    )

-- ---- acts that are alike

-- acts are one, or push one manifest
pub data Alike (one two : Act) : Type 0 where
  alike : one ≡ two → Alike one two
  pushed : (name : List ℕ) (at : Option Reference) (a b : Pushed) → one ≡ pushes name at a → two ≡ pushes name at b → b.digest ≡ a.digest → b.bytes ≡ a.bytes → b.judged ≡ a.judged → Alike one two

pub one_step : (w u : Data) (h i : Hold) → Same w u → IsTrue w.held.tells → Alike h.act i.act → Step w h → Step u i → AreOne h.seen i.seen h.left i.left
one_step w u h i same tells (alike is) s t =
    one_hold h.act w u h.left i.left h.seen i.seen same tells s.sound (subst (λ (a : Act). IsSound a i.seen) (sym is) t.sound) s.move (subst (λ (a : Act). Move u a i.seen i.left) (sym is) t.move)
one_step w u h i same tells (pushed name at a b is also digest bytes judged) s t =
    one_push name at a b w u h.left i.left h.seen i.seen digest bytes judged same tells (subst (λ (c : Act). IsSound c h.seen) is s.sound) (subst (λ (c : Act). IsSound c i.seen) also t.sound)
    (subst (λ (c : Act). Move w c h.seen h.left) is s.move) (subst (λ (c : Act). Move u c i.seen i.left) also t.move)

pub still_tells : (w : Data) (h : Hold) → IsTrue w.held.tells → Step w h → IsTrue h.left.held.tells
still_tells w h tells s = s.tells ∙ tells

-- ---- words that are told

abbrev pub AreTold : Words → Type 0
AreTold words = (told : ℕ → List ℕ) × (words ≡ Some told)

told_drawn : (words after : Words) (word : List ℕ) → AreTold words → Draws words word after → AreTold after
told_drawn words after word (told, is) draws =
    let drawn = subst (λ (x : Words). Draws x word after) is draws in
    (λ k. told (k + 1), drawn.1)

told_after : (o : Own) (words after : Words) (act : Act) → AreTold words → Brings o words act after → AreTold after
told_after o words after (starts name mount id now) told brings = told_drawn words after brings.0 told brings.1
told_after o words after (takes who name id start) told brings = (told.0, brings.1 ∙ told.1)
told_after o words after act told brings = (told.0, brings ∙ told.1)

pub told_behind : (o : Own) (words after : Words) (holds : List Hold) → AreTold words → BringsAll o words holds after → AreTold after
told_behind o words after [] told brings = (told.0, brings ∙ told.1)
told_behind o words after (h ∷ holds) told brings = told_behind o brings.0 after holds (told_after o words brings.0 h.act told brings.1) brings.2

pub tells_behind : (w v : Data) (holds : List Hold) → IsTrue w.held.tells → Chain Alone w holds v → IsTrue v.held.tells
tells_behind w v [] tells chain = ap (λ (d : Data). d.held.tells) (chain v refl) ∙ tells
tells_behind w v (h ∷ holds) tells chain =
    tells_behind h.left v holds (chain.1.tells ∙ ap (λ (d : Data). d.held.tells) chain.0 ∙ tells) chain.2

-- Pages that follow each other, up to the last.
use Rattle.std.proofs.Common.{◌≡◌, ℕ, zero, suc, ◌+◌, ◌-◌, ◌^◌, ◌<◌, List, [], ◌∷◌, ◌++◌, length, Option, Some, None, refl, sym, subst, ◌∙◌, arith}
use Rattle.std.specs.Prelude.{IsTrue, min}
use Rattle.std.proofs.lemmas.List.{length-append, nil_from_length}
use Rattle.depot_api.specs.Files.{Files}
use Rattle.depot_api.specs.Holdings.{Holding}
use Rattle.depot_api.specs.Pages.{IsNextPath, IsPage}
use Rattle.page_walk.specs.Counts.{CountsUnder}

abbrev Path : Type 0
Path = List (List ℕ)

-- these paths follow each other behind `after`, and `last` is the last of them
abbrev pub Leads : Files → Path → Option Path → List Path → Option Path → Type 0
Leads files under after [] last = after ≡ last
Leads files under after (p ∷ ps) last = IsNextPath files under after (Some p) × Leads files under (Some p) ps last

-- a walk that has come to `last` and has counted so many files
pub record IsWalked (files : Files) (under : Path) (last : Option Path) (n : ℕ) : Type 0 where
  pub paths : List Path
  pub leads : Leads files under None paths last
  pub counted : n ≡ min (length paths) (2 ^ 64 - 1)

module _ (files : Files) (under : Path) where
  Leads-trans : (after : Option Path) (ps : List Path) (mid : Option Path) (qs : List Path) (last : Option Path) → Leads files under after ps mid → Leads files under mid qs last → Leads files under after (ps ++ qs) last
  Leads-trans after [] mid qs last e h = subst (λ a. Leads files under a qs last) (sym e) h
  Leads-trans after (p ∷ ps) mid qs last g h = (g.0, Leads-trans (Some p) ps mid qs last g.1 h)

  Leads-from_page : (n : ℕ) (after : Option Path) (front : List Path) (p : Path) → IsPage files under after n (front ++ p ∷ []) → Leads files under after (front ++ p ∷ []) (Some p)
  Leads-from_page zero after [] p h = cc h
  Leads-from_page zero after (q ∷ qs) p h = cc h
  Leads-from_page (suc n) after [] p h = (h.0, refl)
  Leads-from_page (suc n) after (q ∷ qs) p h = (h.0, Leads-from_page n (Some q) qs p h.1)

  -- paths behind the last of which no file follows are a page that ends early
  IsPage-from_leads : (after : Option Path) (ps : List Path) (last : Option Path) → Leads files under after ps last → IsNextPath files under last None → IsPage files under after (suc (length ps)) ps
  IsPage-from_leads after [] last e h = subst (λ a. IsNextPath files under a None) (sym e) h
  IsPage-from_leads after (p ∷ ps) last g h = (g.0, IsPage-from_leads (Some p) ps last g.1 h)

  ends : (n : ℕ) (after : Option Path) → 0 < n → IsPage files under after n [] → IsNextPath files under after None
  ends zero after some h = absurd (omega (arith, some))
  ends (suc n) after some h = h

pub walked_none : (files : Files) (under : Path) → IsWalked files under None 0
walked_none files under = record { paths = []; leads = refl; counted = refl }

-- what a page tells, by what the depot held at the walk's begin
pub page_of : (f g : Holding) (under : Path) (a last : Option Path) (n : ℕ) (page : List Path) → g ≡ f → a ≡ last → (IsTrue g.tells → IsPage g.files under a n page) → IsTrue f.tells → IsPage f.files under last n page
page_of f g under a last n page e s h told =
    subst (λ k. IsPage f.files under k n page) s (subst (λ k. IsTrue k.tells → IsPage k.files under a n page) e h told)

-- a page more
pub walked_more : (files : Files) (under : Path) (last : Option Path) (n m k most : ℕ) (page front : List Path) (p : Path) → IsWalked files under last n → IsPage files under last most page → page ≡ front ++ p ∷ [] → k ≡ length page → m ≡ min (n + k) (2 ^ 64 - 1) → IsWalked files under (Some p) m
walked_more files under last n m k most page front p w h is size e =
    let leads = Leads-from_page files under most last front p (subst (IsPage files under last most) is h) in
    record {
      paths = w.paths ++ page;
      leads = Leads-trans files under None w.paths last page (Some p) w.leads (subst (λ ps. Leads files under last ps (Some p)) (sym is) leads);
      counted = omega (arith, e, w.counted, size, length-append w.paths page);
    }

-- a page of no file
pub walked_all : (files : Files) (under : Path) (last : Option Path) (n m k most : ℕ) (page : List Path) → IsWalked files under last n → 0 < most → IsPage files under last most page → k ≡ 0 → k ≡ length page → m ≡ min (n + k) (2 ^ 64 - 1) → CountsUnder under files m
walked_all files under last n m k most page w some h none size e =
    let end = ends files under most last some (subst (IsPage files under last most) (nil_from_length page (sym size ∙ none)) h) in
    (w.paths, IsPage-from_leads files under None w.paths last w.leads end, omega (arith, e, w.counted, none))

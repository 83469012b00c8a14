-- Walks of the maps, and look-ups.
use Rattle.std.proofs.Common.{◌≡◌, ℕ, ◌<◌, Bool, true, false, cond, List, [], ◌∷◌, length, get_or, MatchBool, Option, Some, None, refl, sym, ap, subst, ◌∙◌, is_eq, Ordering, Less, Equal, Greater}
use Rattle.std.specs.Prelude.{◌&&◌, ◌||◌, not, unwrap_or}
use Rattle.std.specs.List.{HoldsAt, AllWithin, AllByRecursion, IsDistinct, filter}
use Rattle.std.specs.Map.{lookup, keys_of}
use Rattle.std.specs.BTreeMap as tree
use Rattle.std.specs.BTreeMap.{BTreeMap}
use Rattle.std.specs.Ordering.{nat_cmp, eq_by_cmp}
use Rattle.std.specs.Cmp.{IsTotalOrder, both_tied}
use Rattle.std.specs.Cmp.Lexicographic.{slice_cmp, nat_list_cmp_total, nat_list_eq_equiv, bytes_decides, texts_ties}
use Rattle.std.proofs.lemmas.Cmp.{on_total, then_total}
use Rattle.std.proofs.lemmas.Map.Views.{btree_map_get_iff}
use Rattle.std.proofs.lemmas.Map.Keys.{IsDistinct-from_sorted, IsDistinct-head, IsDistinct-tail}
use Rattle.std.proofs.lemmas.Map.Entries.{btree_map_get_place}
use Rattle.std.proofs.lemmas.Map.Lookups.{CmpEqualImpliesEq, exact_pairs, exact_bytes}
use Rattle.std.proofs.lemmas.List.Folds.{none_from_all_within}
use Rattle.std.proofs.lemmas.List.Elements.{at_read}
use Rattle.std.proofs.lemmas.Option.{slice_get-get_or}
use Rattle.std.proofs.lemmas.Bool.{and_parts, false≢true}
use Rattle.reg_journal.specs.Changes.{is_same, points_to}
use Rattle.reg_plain.specs.declared.state.Standing.{Standing}
use Rattle.reg_plain.specs.declared.state.Known.{Known}
use Rattle.reg_plain.specs.Held.{spot_cmp, unknown}
use Rattle.reg_plain.specs.InnerChanges.{is_spot, touched_at, touched_where, known_touched_at, known_where, known_in}

pub spot_total : IsTotalOrder spot_cmp
spot_total = then_total (on_total (λ (s : List ℕ × List ℕ). s.0) nat_list_cmp_total) (on_total (λ (s : List ℕ × List ℕ). s.1) nat_list_cmp_total)

pub spot_exact : CmpEqualImpliesEq spot_cmp
spot_exact = exact_pairs (slice_cmp nat_cmp) (slice_cmp nat_cmp) exact_bytes exact_bytes

-- what a walk over all entries tells, by what look-ups find
pub walk_by : {X : Type 0} (m : BTreeMap (List ℕ × List ℕ) X) (P : (List ℕ × List ℕ) × X → Type 0) (d : (List ℕ × List ℕ) × X) (b : Bool) → tree.IsOrdered spot_cmp m
    → MatchBool b ((k : ℕ) × (k < length m.entries) × HoldsAt P m.entries k) (AllWithin (λ e. ¬ (P e)) m.entries 0 (length m.entries))
    → MatchBool b ((key : List ℕ × List ℕ) × (x : X) × (tree.get spot_cmp m key ≡ Some x) × P (key, x)) ((key : List ℕ × List ℕ) (x : X) → tree.get spot_cmp m key ≡ Some x → ¬ (P (key, x)))
walk_by {X} m P d true ordered h =
    let e : (List ℕ × List ℕ) × X = get_or m.entries h.0 d in
    (e.0, e.1, btree_map_get_place spot_total m h.0 e.0 e.1 ordered (slice_get-get_or m.entries h.0 d h.1), h.2 d)
walk_by m P d false ordered h = λ key x g p.
    let at = (btree_map_get_iff spot_total spot_exact m ordered key x).0 g in
    none_from_all_within P m.entries h (at.0, at.1, at_read m.entries P at.0 (key, x) at.1 (sym at.2) p)

-- ---- keys

pub same : (x y : List ℕ) → is_same x y ≡ true → x ≡ y
same x y h = (bytes_decides x y).0 h

pub bytes_are : (one other : List ℕ) → is_eq (slice_cmp nat_cmp one other) ≡ is_same one other
bytes_are one other = sym (texts_ties one other)

pub spots_are : (one other : List ℕ × List ℕ) → is_eq (spot_cmp one other) ≡ is_spot one other
spots_are one other = sym (both_tied (is_same one.0 other.0) (is_same one.1 other.1) (slice_cmp nat_cmp one.0 other.0) (slice_cmp nat_cmp one.1 other.1) (texts_ties one.0 other.0) (texts_ties one.1 other.1))

pub same_spot : (one other : List ℕ × List ℕ) → is_spot one other ≡ true → one ≡ other
same_spot one other h =
    let p = and_parts (is_same one.0 other.0) (is_same one.1 other.1) h in
    let n : one.0 ≡ other.0 = same one.0 other.0 p.0 in
    let d : one.1 ≡ other.1 = same one.1 other.1 p.1 in
    λ i. (n i, d i)

pub turned : (one other : List ℕ) → is_same one other ≡ is_same other one
turned one other = nat_list_eq_equiv.symm one other

-- ---- a map with something else at one key

pub spot_updated : {X : Type 0} (m n : BTreeMap (List ℕ × List ℕ) X) (spot : List ℕ × List ℕ) (w : Option X) → tree.Updates spot_cmp m n spot w
    → (key : List ℕ × List ℕ) → tree.get spot_cmp n key ≡ cond (is_spot spot key) w (tree.get spot_cmp m key)
spot_updated m n spot w u key = u.0 key ∙ ap (λ b. cond b w (tree.get spot_cmp m key)) (spots_are spot key)

pub digest_updated : {X : Type 0} (m n : BTreeMap (List ℕ) X) (digest : List ℕ) (w : Option X) → tree.Updates (slice_cmp nat_cmp) m n digest w
    → (other : List ℕ) → tree.get (slice_cmp nat_cmp) n other ≡ cond (is_same digest other) w (tree.get (slice_cmp nat_cmp) m other)
digest_updated m n digest w u other = u.0 other ∙ ap (λ b. cond b w (tree.get (slice_cmp nat_cmp) m other)) (bytes_are digest other)

pub equal_from : (o : Ordering) → is_eq o ≡ true → o ≡ Equal
equal_from Equal h = refl
equal_from Less h = absurd (false≢true h)
equal_from Greater h = absurd (false≢true h)

-- two values by a test
pub either : {P : Type 0} (c : Bool) → (c ≡ true → P) → (c ≡ false → P) → P
either true f g = f refl
either false f g = g refl

pub touched_one : (m n : BTreeMap (List ℕ × List ℕ) Standing) (spot : List ℕ × List ℕ) (now : ℕ) (s : Standing) → tree.get spot_cmp m spot ≡ Some s → tree.Updates spot_cmp m n spot (Some (touched_at now s))
    → (key : List ℕ × List ℕ) → tree.get spot_cmp n key ≡ touched_where (is_spot spot key) now (tree.get spot_cmp m key)
touched_one m n spot now s at u key =
    spot_updated m n spot (Some (touched_at now s)) u key
    ∙ either (is_spot spot key)
    (λ t. let there : tree.get spot_cmp m key ≡ Some s = subst (λ k. tree.get spot_cmp m k ≡ Some s) (same_spot spot key t) at in
    rw (t, there) refl)
    (λ f. rw f refl)

pub touched_digest : (m n : BTreeMap (List ℕ) Known) (digest : List ℕ) (now : ℕ) (k : Known) → tree.get (slice_cmp nat_cmp) m digest ≡ Some k → tree.Updates (slice_cmp nat_cmp) m n digest (Some (known_touched_at now k))
    → (other : List ℕ) → tree.get (slice_cmp nat_cmp) n other ≡ known_where (is_same digest other) now (tree.get (slice_cmp nat_cmp) m other)
touched_digest m n digest now k at u other =
    digest_updated m n digest (Some (known_touched_at now k)) u other
    ∙ either (is_same digest other)
    (λ t. let there : tree.get (slice_cmp nat_cmp) m other ≡ Some k = subst (λ d. tree.get (slice_cmp nat_cmp) m d ≡ Some k) (same digest other t) at in
    rw (t, there) refl)
    (λ f. rw f refl)

-- what a map does not have is not touched
pub untouched : (m : BTreeMap (List ℕ) Known) (digest : List ℕ) (now : ℕ) → tree.get (slice_cmp nat_cmp) m digest ≡ None
    → (other : List ℕ) → tree.get (slice_cmp nat_cmp) m other ≡ known_where (is_same digest other) now (tree.get (slice_cmp nat_cmp) m other)
untouched m digest now at other =
    either (is_same digest other)
    (λ t. let there : tree.get (slice_cmp nat_cmp) m other ≡ None = subst (λ d. tree.get (slice_cmp nat_cmp) m d ≡ None) (same digest other t) at in
    rw (t, there) refl)
    (λ f. rw f refl)

pub learnt : (m n : BTreeMap (List ℕ) Known) (digest : List ℕ) (k : Known) → tree.Updates (slice_cmp nat_cmp) m n digest (Some k)
    → (other : List ℕ) → known_in n other ≡ cond (is_same digest other) k (known_in m other)
learnt m n digest k u other =
    ap (λ o. unwrap_or o unknown) (digest_updated m n digest (Some k) u other) ∙ by (is_same digest other)
  where
    by : (b : Bool) → unwrap_or (cond b (Some k) (tree.get (slice_cmp nat_cmp) m other)) unknown ≡ cond b k (known_in m other)
    by true = refl
    by false = refl

-- what is not there yet is unknown
pub noted : (m n : BTreeMap (List ℕ) Known) (digest : List ℕ) → tree.get (slice_cmp nat_cmp) m digest ≡ None → tree.Updates (slice_cmp nat_cmp) m n digest (Some unknown)
    → (other : List ℕ) → known_in n other ≡ known_in m other
noted m n digest at u other =
    learnt m n digest unknown u other
    ∙ either (is_same digest other)
    (λ t. let there : tree.get (slice_cmp nat_cmp) m other ≡ None = subst (λ d. tree.get (slice_cmp nat_cmp) m d ≡ None) (same digest other t) at in
    rw (t, there) refl)
    (λ f. rw f refl)

-- ---- a map without some entries

abbrev stays : List ℕ → List ℕ → (List ℕ × List ℕ) × List ℕ → Bool
stays name digest e = not (is_same e.0.0 name) || not (is_same e.1 digest)

abbrev pub at : List ℕ × List ℕ → List ℕ × List ℕ → Bool
at key other = tree.is_at (spot_cmp key) other

none_left : (p : (List ℕ × List ℕ) × List ℕ → Bool) (key : List ℕ × List ℕ) (es : List ((List ℕ × List ℕ) × List ℕ)) → AllByRecursion (λ k. at key k ≡ false) (keys_of es) → lookup (at key) (filter p es) ≡ None
none_left p key [] h = refl
none_left p key (e ∷ es) h = by (p e) (none_left p key es h.1)
  where
    by : (b : Bool) → lookup (at key) (filter p es) ≡ None → lookup (at key) (cond b (e ∷ filter p es) (filter p es)) ≡ None
    by true f = ap (λ b. cond b (Some e.1) (lookup (at key) (filter p es))) h.0 ∙ f
    by false f = f

taken : (x y : Bool) (v : List ℕ) (rest : Option (List ℕ)) → rest ≡ None → cond (not x || not y) (Some v) rest ≡ cond (x && y) None (Some v)
taken true true v rest h = h
taken true false v rest h = refl
taken false y v rest h = refl

nothing_there : (b : Bool) → let none_there : Option (List ℕ) = None in none_there ≡ cond (b && false) None none_there
nothing_there true = refl
nothing_there false = refl

module _ (name digest : List ℕ) (key : List ℕ × List ℕ) where
  left_at : (es : List ((List ℕ × List ℕ) × List ℕ)) → IsDistinct (eq_by_cmp spot_cmp) (keys_of es)
      → lookup (at key) (filter (stays name digest) es) ≡ cond (is_same name key.0 && points_to digest (lookup (at key) es)) None (lookup (at key) es)
  left_at [] d = nothing_there (is_same name key.0)
  left_at (e ∷ es) d =
      either (at key e.0)
      (λ t. let is : key ≡ e.0 = spot_exact key e.0 (equal_from (spot_cmp key e.0) t) in
      let rest : lookup (at key) (filter (stays name digest) es) ≡ None =
      none_left (stays name digest) key es (subst (λ (k : List ℕ × List ℕ). AllByRecursion (λ y. at k y ≡ false) (keys_of es)) (sym is) (IsDistinct-head (eq_by_cmp spot_cmp) e.0 (keys_of es) d)) in
      here t is rest)
      (λ f. there f (left_at es (IsDistinct-tail (eq_by_cmp spot_cmp) e.0 (keys_of es) d)))
    where
      in_front : (b : Bool) → at key e.0 ≡ true → lookup (at key) (cond b (e ∷ filter (stays name digest) es) (filter (stays name digest) es)) ≡ cond b (Some e.1) (lookup (at key) (filter (stays name digest) es))
      in_front true t = ap (λ b. cond b (Some e.1) (lookup (at key) (filter (stays name digest) es))) t
      in_front false t = refl

      behind : (b : Bool) → at key e.0 ≡ false → lookup (at key) (cond b (e ∷ filter (stays name digest) es) (filter (stays name digest) es)) ≡ lookup (at key) (filter (stays name digest) es)
      behind true f = ap (λ b. cond b (Some e.1) (lookup (at key) (filter (stays name digest) es))) f
      behind false f = refl

      here : at key e.0 ≡ true → key ≡ e.0 → lookup (at key) (filter (stays name digest) es) ≡ None
          → lookup (at key) (filter (stays name digest) (e ∷ es)) ≡ cond (is_same name key.0 && points_to digest (lookup (at key) (e ∷ es))) None (lookup (at key) (e ∷ es))
      here t is rest =
          in_front (stays name digest e) t
          ∙ taken (is_same e.0.0 name) (is_same e.1 digest) e.1 (lookup (at key) (filter (stays name digest) es)) rest
          ∙ ap (λ b. cond (b && is_same e.1 digest) None (Some e.1)) (turned e.0.0 name ∙ ap (λ (k : List ℕ × List ℕ). is_same name k.0) (sym is))
          ∙ ap (λ b. cond (is_same name key.0 && points_to digest (cond b (Some e.1) (lookup (at key) es))) None (cond b (Some e.1) (lookup (at key) es))) (sym t)

      there : at key e.0 ≡ false → lookup (at key) (filter (stays name digest) es) ≡ cond (is_same name key.0 && points_to digest (lookup (at key) es)) None (lookup (at key) es)
          → lookup (at key) (filter (stays name digest) (e ∷ es)) ≡ cond (is_same name key.0 && points_to digest (lookup (at key) (e ∷ es))) None (lookup (at key) (e ∷ es))
      there f rest =
          behind (stays name digest e) f ∙ rest
          ∙ ap (λ b. cond (is_same name key.0 && points_to digest (cond b (Some e.1) (lookup (at key) es))) None (cond b (Some e.1) (lookup (at key) es))) (sym f)

pub retained : (m n : BTreeMap (List ℕ × List ℕ) (List ℕ)) (name digest : List ℕ) → tree.IsOrdered spot_cmp m → n.entries ≡ filter (λ e. not (is_same e.0.0 name) || not (is_same e.1 digest)) m.entries
    → (key : List ℕ × List ℕ) → tree.get spot_cmp n key ≡ cond (is_same name key.0 && points_to digest (tree.get spot_cmp m key)) None (tree.get spot_cmp m key)
retained m n name digest ordered is key = ap (lookup (at key)) is ∙ left_at name digest key m.entries (IsDistinct-from_sorted spot_cmp (keys_of m.entries) ordered)

-- Laws of lines: where a line feed stands past the leading CR and LF bytes.
use Rattle.std.proofs.Common.{◌≡◌, ℕ, ◌+◌, ◌<◌, ◌≤◌, Bool, true, false, List, [], ◌∷◌, ◌++◌, length, refl, sym, ap, ◌∙◌, arith, append_assoc, not, Option, Some, None, take, drop, suc, ◌-◌, nat_lt, ◌==◌, ◌||◌, ◌&&◌, cond}
use Rattle.std.proofs.lemmas.Bool.{false≢true}
use Rattle.std.proofs.lemmas.Bool.Decides.{nat_tests}
use Rattle.std.proofs.lemmas.List.{take_rest, drop_all}
use Rattle.std.proofs.lemmas.List.Elements.{All-head, All-tail}
use Rattle.std.specs.List.{list_all, list_any, position, position_or_len}
use Rattle.httparse.specs.Grammar.{LineEnd, crlf, lf, print_end, print_blank, print_version, print_section, AllPass, is_token_byte, is_uri_byte, RequestHead, ReadsRequest, EndsInTarget}
use Rattle.httparse.specs.Pieces.{is_newline}
use Rattle.httparse.proofs.PieceLemmas.{token_is_no_newline}
use Rattle.httparse.proofs.GrammarLemmas.{print_request-append}
use Rattle.http_wire.specs.Heads.{has_line}

-- the same front, as far as the shorter one goes
pub longer : (a r f q : List ℕ) → a ++ r ≡ f ++ q → length a ≤ length f → (x : List ℕ) × (f ≡ a ++ x)
longer [] r f q same fits = (f, refl)
longer (b ∷ a) r [] q same fits = absurd (omega arith)
longer (b ∷ a) r (c ∷ f) q same fits =
    let more = longer a r f q (cc) (omega arith) in
    (more.0, cc (more.1))

-- ---- line feeds

or_more : (v a b : Bool) → (a ≡ true → b ≡ true) → (v || a) ≡ true → (v || b) ≡ true
or_more true a b more h = refl
or_more false a b more h = more h

cond_more : (v a b c d : Bool) → (a ≡ true → c ≡ true) → (b ≡ true → d ≡ true) → cond v a b ≡ true → cond v c d ≡ true
cond_more true a b c d one other h = one h
cond_more false a b c d one other h = other h

and_less : (v a b c : Bool) → (a ≡ true → b ≡ false) → (v && a) ≡ true → cond v b c ≡ false
and_less true a b c less h = less h
and_less false a b c less h = absurd (false≢true h)

any-append : (a b : List ℕ) → list_any (λ c. c == 10) b ≡ true → list_any (λ c. c == 10) (a ++ b) ≡ true
any-append [] b some = some
any-append (x ∷ a) b some = elim (x == 10) as (λ v. (v || list_any (λ c. c == 10) (a ++ b)) ≡ true) [ true ↦ refl | false ↦ any-append a b some ]

any-front : (a b : List ℕ) → list_any (λ c. c == 10) a ≡ true → list_any (λ c. c == 10) (a ++ b) ≡ true
any-front [] b some = absurd (false≢true some)
any-front (x ∷ a) b some = or_more (x == 10) _ _ (any-front a b) some

any-skip : (test : ℕ → Bool) → ((b : ℕ) → test b ≡ true → (b == 10) ≡ false) → (a b : List ℕ) → AllPass test a
    → list_any (λ c. c == 10) (a ++ b) ≡ list_any (λ c. c == 10) b
any-skip test none [] b all = refl
any-skip test none (x ∷ a) b all =
    let tail = any-skip test none a b (All-tail (λ v. test v ≡ true) x a all) in
    rw (none x (All-head (λ v. test v ≡ true) x a all)) tail

any-end : (end : LineEnd) (rest : List ℕ) → list_any (λ c. c == 10) (print_end end ++ rest) ≡ true
any-end crlf rest = refl
any-end lf rest = refl

no_lf : (b : ℕ) → is_newline b ≡ false → (b == 10) ≡ false
no_lf b h = grind (arith, nat_tests)

token_is_no_lf : (b : ℕ) → is_token_byte b ≡ true → (b == 10) ≡ false
token_is_no_lf b token = no_lf b (token_is_no_newline b token)

uri_is_no_lf : (b : ℕ) → is_uri_byte b ≡ true → (b == 10) ≡ false
uri_is_no_lf b uri = grind (arith, nat_tests)

-- ---- lines

pub has_line-append : (a b : List ℕ) → has_line a ≡ true → has_line (a ++ b) ≡ true
has_line-append [] b some = absurd (false≢true some)
has_line-append (x ∷ a) b some = cond_more (is_newline x) _ _ _ _ (has_line-append a b) (any-front a b) some

pub no_line_in_blank : (bytes : List ℕ) → list_all is_newline bytes ≡ true → has_line bytes ≡ false
no_line_in_blank [] all = refl
no_line_in_blank (x ∷ bytes) all = and_less (is_newline x) _ _ _ (no_line_in_blank bytes) all

skip_blank : (ends : List LineEnd) (rest : List ℕ) → has_line (print_blank ends ++ rest) ≡ has_line rest
skip_blank [] rest = refl
skip_blank (crlf ∷ ends) rest = skip_blank ends rest
skip_blank (lf ∷ ends) rest = skip_blank ends rest

skip_token : (word rest : List ℕ) → 0 < length word → AllPass is_token_byte word → has_line (word ++ rest) ≡ list_any (λ c. c == 10) rest
skip_token [] rest some all = absurd (omega arith)
skip_token (b ∷ word) rest some all =
    rw (token_is_no_newline b (All-head (λ v. is_token_byte v ≡ true) b word all)) (any-skip is_token_byte token_is_no_lf word rest (All-tail (λ v. is_token_byte v ≡ true) b word all))

pub head_has_line : (bytes : List ℕ) (h : RequestHead) (rest : List ℕ) → ReadsRequest bytes h rest → has_line bytes ≡ true
head_has_line bytes h rest reads =
    let after = print_end h.line_end ++ (print_section h.fields h.last ++ rest) in
    ap has_line (reads.1 ∙ print_request-append h rest)
    ∙ skip_blank h.blank _
    ∙ skip_token h.method _ reads.0.method.0 reads.0.method.1
    ∙ any-append (32 ∷ h.target) (32 ∷ (print_version h.minor ++ after))
    (any-append (32 ∷ print_version h.minor) after (any-end h.line_end (print_section h.fields h.last ++ rest)))

target_has_no_lf : (target : List ℕ) → AllPass is_uri_byte target → list_any (λ c. c == 10) target ≡ false
target_has_no_lf [] all = refl
target_has_no_lf (x ∷ target) all =
    rw (uri_is_no_lf x (All-head (λ v. is_uri_byte v ≡ true) x target all)) (target_has_no_lf target (All-tail (λ v. is_uri_byte v ≡ true) x target all))

pub target_has_no_line : (bytes : List ℕ) → EndsInTarget bytes → has_line bytes ≡ false
target_has_no_line bytes ends =
    ap has_line (ends.5 ∙ append_assoc (print_blank ends.0) ends.1 (32 ∷ ends.2))
    ∙ skip_blank ends.0 (ends.1 ++ 32 ∷ ends.2)
    ∙ skip_token ends.1 (32 ∷ ends.2) ends.3.0 ends.3.1
    ∙ target_has_no_lf ends.2 ends.4

-- ---- how a line is looked for

step_behind : (v : Bool) (n x : ℕ) (bytes : List ℕ) → (v ≡ false → (x == 10) ≡ false) → has_line bytes ≡ list_any (λ c. c == 10) (drop n bytes)
    → cond v (has_line bytes) (list_any (λ c. c == 10) bytes) ≡ list_any (λ c. c == 10) (drop (cond (not (not v)) (1 + n) 0) (x ∷ bytes))
step_behind true n x bytes other behind =
    let e : suc n ≡ 1 + n = omega arith in
    behind ∙ ap (λ (k : ℕ). list_any (λ c. c == 10) (drop k (x ∷ bytes))) e
step_behind false n x bytes other behind = rw (other refl) refl

pub line_behind : (bytes : List ℕ) → has_line bytes ≡ list_any (λ c. c == 10) (drop (position_or_len (λ b. not (is_newline b)) bytes) bytes)
line_behind [] = refl
line_behind (x ∷ bytes) = step_behind (is_newline x) _ x bytes (no_lf x) (line_behind bytes)

pub line_from : (bytes : List ℕ) (first : ℕ) → position (λ b. not (is_newline b)) bytes ≡ Some first
    → list_any (λ c. c == 10) (take (length bytes - first) (drop first bytes)) ≡ has_line bytes
line_from bytes first found =
    let same = found_at (nat_lt _ (length bytes)) _ first found in
    ap (list_any (λ c. c == 10)) (take_rest bytes first) ∙ ap (λ (k : ℕ). list_any (λ c. c == 10) (drop k bytes)) (sym same) ∙ sym (line_behind bytes)
  where
    found_at : (v : Bool) (k first : ℕ) → cond v (Some k) None ≡ Some first → k ≡ first
    found_at true k first e = cc
    found_at false k first e = absurd (cc)

pub no_line_from : (bytes : List ℕ) → position (λ b. not (is_newline b)) bytes ≡ None → false ≡ has_line bytes
no_line_from bytes none =
    let past : length bytes ≤ position_or_len (λ b. not (is_newline b)) bytes = missing (position_or_len (λ b. not (is_newline b)) bytes) (length bytes) none in
    sym (line_behind bytes ∙ ap (list_any (λ c. c == 10)) (drop_all _ bytes past))
  where
    none_at : (v : Bool) (k : ℕ) → ◌≡◌ {A = Option ℕ} (cond v (Some k) None) None → v ≡ false
    none_at true k e = absurd (cc)
    none_at false k e = refl

    missing : (k n : ℕ) → ◌≡◌ {A = Option ℕ} (cond (nat_lt k n) (Some k) None) None → n ≤ k
    missing k n e = let past = none_at (nat_lt k n) k e in grind (arith, nat_tests)

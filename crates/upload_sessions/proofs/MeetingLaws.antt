-- What a request meets of an upload, over a depot that tells its files.
use Rattle.std.proofs.Common.{◌≡◌, ℕ, Bool, true, false, List, Option, Some, None, Result, Ok, ap, sym, subst, ◌∙◌}
use Rattle.std.specs.Prelude.{IsTrue, option_map}
use Rattle.depot_api.specs.Files.{Files}
use Rattle.depot_api.specs.Holdings.{Holding}
use Rattle.link_paths.specs.Places.{upload_started_path}
use Rattle.reg_claims.specs.Claims.{ClaimList}
use Rattle.reg_model.specs.Uploads.{upload_at, is_busy, met_at, met_by}
use Rattle.upload_sessions.specs.Meeting.{data_end, Meets}

pub met_is_there : (held : Holding) (claims : ClaimList) (name : List ℕ) (id : Option (List ℕ)) (met : Result (List ℕ × ℕ) ℕ) → IsTrue held.tells → Meets held claims name id met → met ≡ met_by (upload_at held.files name) (is_busy held claims name) id
met_is_there held claims name None met tells h = h
met_is_there held claims name (Some id) met tells h = h.is ∙ ap (λ (ends : Option ℕ). met_at id ends (is_busy held claims name id)) (h.told tells)

ends_are : (id key : List ℕ) (n : ℕ) (ends : Option ℕ) (busy : Bool) → Ok (key, n) ≡ met_at id ends busy → (id ≡ key) × (ends ≡ Some n)
ends_are id key n None busy e = absurd (cc e)
ends_are id key n (Some end) true e = absurd (cc e)
ends_are id key n (Some end) false e =
    let same : (key, n) ≡ (id, end) = cc in
    (sym (ap (λ (m : List ℕ × ℕ). m.0) same), ap (λ (m : List ℕ × ℕ). Some m.1) (sym same))

pub met_end : (held : Holding) (claims : ClaimList) (name : List ℕ) (id : Option (List ℕ)) (key : List ℕ) (n : ℕ) → IsTrue held.tells → Meets held claims name id (Ok (key, n)) → upload_at held.files name key ≡ Some n
met_end held claims name None key n tells h = absurd (cc h)
met_end held claims name (Some id) key n tells h =
    let one = ends_are id key n h.ends (is_busy held claims name id) h.is in
    subst (λ (k : List ℕ). upload_at held.files name k ≡ Some n) one.0 (sym (h.told tells) ∙ one.1)

end_by : (end n : ℕ) (started : Option (List ℕ)) → option_map (λ (s : List ℕ). end) started ≡ Some n → end ≡ n
end_by end n None e = absurd (cc e)
end_by end n (Some s) e = cc

pub data_ends : (files : Files) (name id : List ℕ) (n : ℕ) → upload_at files name id ≡ Some n → data_end files name id ≡ n
data_ends files name id n e = end_by (data_end files name id) n (files (upload_started_path name id)) e

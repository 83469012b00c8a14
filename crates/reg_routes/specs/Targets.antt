-- The target of a request and its parts (RFC 9112, section 3.2; OCI Distribution Specification 1.1, "Endpoints").
use Rattle.std.specs.Prelude.{◌≡◌, ◌≢◌, ◌⊎◌, ◌++◌, ℕ, suc, Bool, true, false, not, ◌&&◌, ◌||◌, ◌==◌, nat_eq}
use Rattle.std.specs.Prelude.{if◌then◌else◌, List, [], ◌∷◌, length, take}
use Rattle.std.specs.Prelude.{drop, codes, Option, Some, None, option_and_then}
use Rattle.std.specs.List.{position, list_all}
use Rattle.std.specs.Option.{option_map_or}
use Rattle.std.specs.Cmp.Lexicographic.{pointwise}
use Rattle.reg_entries.specs.declared.route.Route.{Route}
use Rattle.reg_entries.specs.declared.route.Route.TheVariants as routes
use Rattle.reg_routes.specs.declared.target.Spot.{Spot}

-- the two texts are the same
abbrev pub is : List ℕ → List ℕ → Bool
is text other = pointwise nat_eq text other

-- the second text begins with the first
abbrev pub begins : List ℕ → List ℕ → Bool
begins front text = is (take (length front) text) front

-- ---- path and query

-- what stands on the two sides of a place
abbrev pub cut_at : List ℕ → Option ℕ → List ℕ × List ℕ
cut_at text None = (text, [])
cut_at text (Some at) = (take at text, drop (suc at) text)

-- the path and the query, on the two sides of the first `?`
abbrev pub cut_query : List ℕ → List ℕ × List ℕ
cut_query target = cut_at target (position (λ b. b == 63) target)

-- what stands from a place on
abbrev pub from_place : List ℕ → Option ℕ → List ℕ
from_place text None = []
from_place text (Some at) = drop at text

-- what stands from the first slash on
abbrev pub from_slash : List ℕ → List ℕ
from_slash text = from_place text (position (λ b. b == 47) text)

-- the path of a target, which may have a scheme and a host in front
abbrev pub without_origin : List ℕ → List ℕ
without_origin path =
    if begins (codes "http://") path then from_slash (drop 7 path)
    else if begins (codes "https://") path then from_slash (drop 8 path)
    else path

-- ---- routes

-- a route, the text at the place of the repository's name, and what stands behind the route: a reference, a digest, an
-- id, or nothing
pub record Place : Type 0 where
  pub route : Route
  pub name : List ℕ
  pub key : List ℕ

abbrev pub place : Route → List ℕ → List ℕ → Place
place route name key = record { route = route; name = name; key = key }

-- no slash stands in the text
abbrev pub IsFree : List ℕ → Type 0
IsFree text = list_all (λ b. not (b == 47)) text ≡ true

-- what stands before and behind the last slash
abbrev pub cut_last : List ℕ → Option (List ℕ × List ℕ)
cut_last [] = None
cut_last (b ∷ text) =
    option_map_or (λ p. Some (b ∷ p.0, p.1)) (cut_last text) (if b == 47 then Some ([], text) else None)

-- `<name>/tags/list`, `<name>/manifests/<reference>`, `<name>/blobs/uploads`, `<name>/blobs/<digest>`
abbrev pub spot_in : List ℕ → List ℕ → List ℕ → Option Place
spot_in name kind last =
    if is kind (codes "tags") && is last (codes "list") then Some (place routes.Tags name [])
    else if is kind (codes "manifests") then Some (place routes.Manifest name last)
    else if is kind (codes "blobs") && is last (codes "uploads") then Some (place routes.Uploads name [])
    else if is kind (codes "blobs") then Some (place routes.Blob name last)
    else None

-- `<name>/blobs` before `/uploads/`, and before `/uploads/<id>`
abbrev pub upload_route : List ℕ → Route
upload_route last = if length last == 0 then routes.Uploads else routes.Upload

abbrev pub upload_below : List ℕ → List ℕ × List ℕ → Option Place
upload_below last (name, folder) =
    if is folder (codes "blobs") then Some (place (upload_route last) name last) else None

abbrev pub upload_in : List ℕ → List ℕ → Option Place
upload_in front last = option_and_then (upload_below last) (cut_last front)

-- the last segment but one decides, behind which the name stands
abbrev pub spot_by : List ℕ → List ℕ × List ℕ → Option Place
spot_by last (name, kind) =
    if is kind (codes "uploads") then upload_in name last else spot_in name kind last

abbrev pub spot_before : List ℕ × List ℕ → Option Place
spot_before (front, last) = option_and_then (spot_by last) (cut_last front)

-- the route of what stands behind `/v2/`
abbrev pub spot_below : List ℕ → Option Place
spot_below path = option_and_then spot_before (cut_last path)

-- where a path leads to
abbrev pub spot_at : List ℕ → Option Place
spot_at path =
    if is path (codes "/v2") || is path (codes "/v2/") then Some (place routes.Base [] [])
    else if begins (codes "/v2/") path then spot_below (drop 4 path)
    else None

-- a spot that a call answers, as its texts
abbrev pub shown : Spot → Place
shown spot = place spot.route spot.name.now spot.key.now

-- ---- the table of routes, by the ends of paths

-- a path of a repository, by its name and what follows
abbrev pub path_below : List ℕ → List ℕ → List ℕ
path_below name ending = codes "/v2/" ++ (name ++ ending)

-- the path leads to the place
abbrev pub Leads : List ℕ → Place → Type 0
Leads path place = spot_at path ≡ Some place

abbrev pub LeadsToBase : Type 0
LeadsToBase = Leads (codes "/v2") (place routes.Base [] []) × Leads (codes "/v2/") (place routes.Base [] [])

abbrev pub LeadsToTags : Type 0
LeadsToTags = (name : List ℕ) → Leads (path_below name (codes "/tags/list")) (place routes.Tags name [])

abbrev pub LeadsToManifests : Type 0
LeadsToManifests =
    (name key : List ℕ) → IsFree key
    → Leads (path_below name (codes "/manifests/" ++ key)) (place routes.Manifest name key)

abbrev pub LeadsToUploads : Type 0
LeadsToUploads =
    (name : List ℕ) → Leads (path_below name (codes "/blobs/uploads")) (place routes.Uploads name [])
    × Leads (path_below name (codes "/blobs/uploads/")) (place routes.Uploads name [])

abbrev pub LeadsToUpload : Type 0
LeadsToUpload =
    (name id : List ℕ) → IsFree id → id ≢ []
    → Leads (path_below name (codes "/blobs/uploads/" ++ id)) (place routes.Upload name id)

abbrev pub LeadsToBlobs : Type 0
LeadsToBlobs =
    (name key : List ℕ) → IsFree key → is key (codes "uploads") ≡ false
    → Leads (path_below name (codes "/blobs/" ++ key)) (place routes.Blob name key)

-- how the path of a route is spelled
abbrev pub SpelledBy : Route → List ℕ → List ℕ → List ℕ → Type 0
SpelledBy routes.Base path name key = (path ≡ codes "/v2") ⊎ (path ≡ codes "/v2/")
SpelledBy routes.Tags path name key = path ≡ path_below name (codes "/tags/list")
SpelledBy routes.Manifest path name key = path ≡ path_below name (codes "/manifests/" ++ key)
SpelledBy routes.Uploads path name key =
    (path ≡ path_below name (codes "/blobs/uploads")) ⊎ (path ≡ path_below name (codes "/blobs/uploads/"))
SpelledBy routes.Upload path name key = path ≡ path_below name (codes "/blobs/uploads/" ++ key)
SpelledBy routes.Blob path name key = path ≡ path_below name (codes "/blobs/" ++ key)

abbrev pub IsSpelled : List ℕ → Place → Type 0
IsSpelled path p = SpelledBy p.route path p.name p.key

-- a path leads somewhere only where it is spelled so
abbrev pub LeadsOnlySo : Type 0
LeadsOnlySo = (path : List ℕ) (p : Place) → Leads path p → IsSpelled path p

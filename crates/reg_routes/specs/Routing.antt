-- What a request asks for, by its route, its method and its query (OCI Distribution Specification 1.1, "Endpoints").
use Rattle.std.specs.Prelude.{◌≡◌, ℕ, Bool, ◌==◌, if◌then◌else◌, List, [], ◌∷◌, codes}
use Rattle.std.specs.Prelude.{Option, Some, None, option_and_then, Result, Ok, Err, ⊤}
use Rattle.std.specs.List.{list_any, find}
use Rattle.std.specs.Str.{is_utf8}
use Rattle.form_urlencoded.specs.Form.{raw_pairs}
use Rattle.http_wire.specs.Framing.{values_of}
use Rattle.http_wire.specs.Questions.{start_of}
use Rattle.reg_names.specs.Names.{is_name}
use Rattle.reg_names.specs.Digests.{digest_named}
use Rattle.reg_names.specs.References.{reference_named}
use Rattle.reg_names.specs.UploadIds.{upload_id_named}
use Rattle.reg_names.specs.declared.reference.Reference.{Reference}
use Rattle.reg_entries.specs.Numbers.{name_invalid, digest_invalid, route_unknown}
use Rattle.reg_entries.specs.Routes.{methods_of, method_text}
use Rattle.reg_entries.specs.declared.ask.Ask.{Ask}
use Rattle.reg_entries.specs.declared.ask.Ask.TheVariants as asks
use Rattle.reg_entries.specs.declared.reply.Reply.{Reply}
use Rattle.reg_entries.specs.declared.reply.Reply.TheVariants.{Refused, NotAllowed}
use Rattle.reg_entries.specs.declared.reply.Detail.TheVariants.{Nothing}
use Rattle.reg_entries.specs.declared.route.Route.{Route}
use Rattle.reg_entries.specs.declared.route.Route.TheVariants as routes
use Rattle.reg_entries.specs.declared.route.Method.{Method}
use Rattle.reg_entries.specs.declared.route.Method.TheVariants.{Delete, Patch, Put}
use Rattle.reg_routes.specs.declared.routing.Unrouted.{Unrouted}
use Rattle.reg_routes.specs.declared.routing.Unrouted.TheVariants as unrouted
use Rattle.reg_routes.specs.Targets.{is, Place, cut_query, without_origin, spot_at}
use Rattle.reg_routes.specs.Colons.{with_colons}
use Rattle.reg_routes.specs.Queries.{value_in, count_text}

-- an ask, or the refusal of a request
abbrev pub Answer : Type 0
Answer = Result Ask Reply

-- a refusal that tells nothing more
abbrev pub refuse : ℕ → Answer
refuse n = Err (Refused (record { number = n; detail = Nothing }))

abbrev pub Pairs : Type 0
Pairs = List (List ℕ × List ℕ)

-- ---- the routes of a repository

-- the `n` of a query
abbrev pub count_in : Pairs → Option ℕ
count_in pairs = option_and_then count_text (value_in (codes "n") pairs)

-- a digest that a query has
abbrev pub digest_in : List ℕ → Pairs → Option (List ℕ)
digest_in key pairs = option_and_then digest_named (value_in key pairs)

-- a list of tags: at most `n`, and those above `last`
abbrev pub tags_ask : List ℕ → Pairs → Answer
tags_ask name pairs = Ok (asks.Tags name (count_in pairs) (value_in (codes "last") pairs))

-- a manifest by that reference
abbrev pub manifest_at : List ℕ → Option Reference → Option (List ℕ) → Method → Answer
manifest_at name at typed Delete = Ok (asks.DropReference name at)
manifest_at name at typed Put = Ok (asks.PutManifest name at typed)
manifest_at name at typed _ = Ok (asks.GetManifest name at)

-- a reference with a colon that is no digest is refused; another text that is no tag is no reference
abbrev pub manifest_ref : List ℕ → Bool → Option Reference → Option (List ℕ) → Method → Answer
manifest_ref name colon None typed method =
    if colon then refuse digest_invalid else manifest_at name None typed method
manifest_ref name colon (Some at) typed method = manifest_at name (Some at) typed method

abbrev pub manifest_ask : List ℕ → List ℕ → Option (List ℕ) → Method → Answer
manifest_ask name key typed method =
    manifest_ref name (list_any (λ b. b == 58) key) (reference_named key) typed method

-- a blob by its digest
abbrev pub blob_at : List ℕ → Option (List ℕ) → Method → Answer
blob_at name None method = refuse digest_invalid
blob_at name (Some digest) Delete = Ok (asks.DropBlob name digest)
blob_at name (Some digest) _ = Ok (asks.GetBlob name digest)

-- what is mounted: a digest, and the name of another repository
abbrev pub mount_from : Option (List ℕ) → Option (List ℕ) → Option (List ℕ × List ℕ)
mount_from (Some digest) (Some from) = if is_name from then Some (digest, from) else None
mount_from _ _ = None

abbrev pub mount_in : Pairs → Option (List ℕ × List ℕ)
mount_in pairs = mount_from (digest_in (codes "mount") pairs) (value_in (codes "from") pairs)

-- an upload, or a mount
abbrev pub start_ask : List ℕ → Pairs → Answer
start_ask name pairs = Ok (asks.Start name (mount_in pairs))

-- the end of an upload, by the digest of what was uploaded
abbrev pub finish_ask : List ℕ → Option (List ℕ) → Option ℕ → Option (List ℕ) → Answer
finish_ask name id start None = refuse digest_invalid
finish_ask name id start (Some digest) = Ok (asks.Finish name id digest start)

abbrev pub upload_ask : List ℕ → Option (List ℕ) → Option ℕ → Pairs → Method → Answer
upload_ask name id start pairs Put = finish_ask name id start (digest_in (codes "digest") pairs)
upload_ask name id start pairs Patch = Ok (asks.Patch name id start)
upload_ask name id start pairs Delete = Ok (asks.Cancel name id)
upload_ask name id start pairs _ = Ok (asks.State name id)

abbrev pub repository_ask : Route → List ℕ → List ℕ → Method → Pairs → Option (List ℕ) → Option ℕ → Answer
repository_ask routes.Base name key method pairs typed start = Ok asks.Base
repository_ask routes.Tags name key method pairs typed start = tags_ask name pairs
repository_ask routes.Manifest name key method pairs typed start = manifest_ask name key typed method
repository_ask routes.Uploads name key method pairs typed start = start_ask name pairs
repository_ask routes.Upload name key method pairs typed start =
    upload_ask name (upload_id_named key) start pairs method
repository_ask routes.Blob name key method pairs typed start = blob_at name (digest_named key) method

-- ---- all routes

-- what stands at the place of a repository's name has to be one
abbrev pub named_ask : Place → Method → Pairs → Option (List ℕ) → Option ℕ → Answer
named_ask place method pairs typed start =
    if is_name place.name then repository_ask place.route place.name place.key method pairs typed start
    else refuse name_invalid

-- the base route has no name
abbrev pub place_ask : Route → Place → Method → Pairs → Option (List ℕ) → Option ℕ → Answer
place_ask routes.Base place method pairs typed start = Ok asks.Base
place_ask _ place method pairs typed start = named_ask place method pairs typed start

-- a route that has no such method is not allowed
abbrev pub allowed_ask : Place → Option Method → Pairs → Option (List ℕ) → Option ℕ → Answer
allowed_ask place None pairs typed start = Err (NotAllowed place.route)
allowed_ask place (Some method) pairs typed start = place_ask place.route place method pairs typed start

-- the method is looked for among those of the route
abbrev pub placed_ask : List ℕ → Place → Pairs → Option (List ℕ) → Option ℕ → Answer
placed_ask method place pairs typed start =
    allowed_ask place (find (λ m. is method (method_text m)) (methods_of place.route)) pairs typed start

abbrev pub found_ask : List ℕ → Option Place → Pairs → Option (List ℕ) → Option ℕ → Answer
found_ask method None pairs typed start = refuse route_unknown
found_ask method (Some place) pairs typed start = placed_ask method place pairs typed start

-- where the path of a target leads to, and the pairs of its query
abbrev pub spot_in_target : List ℕ → Option Place
spot_in_target target = spot_at (with_colons (without_origin (cut_query target).0))

abbrev pub pairs_in : List ℕ → Pairs
pairs_in target = raw_pairs (cut_query target).1

-- what a request asks for, by its method, its target, its Content-Type and the start that it gives: the first of these
-- refusals counts: no route, no such method, no name, no digest
abbrev pub asked : List ℕ → List ℕ → Option (List ℕ) → Option ℕ → Answer
asked method target typed start = found_ask method (spot_in_target target) (pairs_in target) typed start

-- ---- heads

-- the text that bytes are, and none for bytes that are no UTF-8
abbrev pub text_or_none : List ℕ → List ℕ
text_or_none value = if is_utf8 value then value else []

-- the first of these values, as a text
abbrev pub first_text : List (List ℕ) → Option (List ℕ)
first_text [] = None
first_text (value ∷ rest) = Some (text_or_none value)

-- the first Content-Type
abbrev pub typed_in : Pairs → Option (List ℕ)
typed_in fields = first_text (values_of (codes "content-type") fields)

-- the start of the first Content-Range
abbrev pub start_in : Pairs → Option ℕ
start_in fields = start_of (values_of (codes "content-range") fields)

-- what a request with this method, this target and these fields asks for
abbrev pub ask_of : List ℕ → List ℕ → Pairs → Answer
ask_of method target fields = asked method target (typed_in fields) (start_in fields)

-- the answer of a call, unless memory was wanting
abbrev pub IsRouted : Answer → Result Ask Unrouted → Type 0
IsRouted answer (Ok ask) = answer ≡ Ok ask
IsRouted answer (Err (unrouted.Refused reply)) = answer ≡ Err reply
IsRouted answer (Err unrouted.NoMemory) = ⊤

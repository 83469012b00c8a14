-- The one spelling of each reply (RFC 9112, section 4; OCI Distribution Specification 1.1, "Endpoints").
use Rattle.std.specs.Prelude.{ℕ, ◌-◌, ◌==◌, Bool, if◌then◌else◌, List, []}
use Rattle.std.specs.Prelude.{◌++◌, length, codes, Option, Some, None, option_map}
use Rattle.std.specs.List.{join_by}
use Rattle.std.specs.Option.{option_map_or}
use Rattle.std.specs.Fmt.{decimal}
use Rattle.serde_json.specs.Written.{compact_text}
use Rattle.reg_names.specs.Kinds.{media_type_of}
use Rattle.reg_names.specs.Digests.{digest_text}
use Rattle.reg_names.specs.UploadIds.{upload_id_text}
use Rattle.reg_entries.specs.Listing.{last_of}
use Rattle.reg_entries.specs.Numbers.{wrong_start, read_only, method_not_allowed}
use Rattle.reg_entries.specs.Routes.{methods_of, method_text}
use Rattle.reg_entries.specs.declared.route.Route.{Route}
use Rattle.reg_entries.specs.declared.route.Route.TheVariants as routes
use Rattle.reg_entries.specs.declared.reply.Reply.{Reply}
use Rattle.reg_entries.specs.declared.reply.Reply.TheVariants.{Base, Manifest, Blob, Tags}
use Rattle.reg_entries.specs.declared.reply.Reply.TheVariants.{Started, Mounted, Patched, Offset}
use Rattle.reg_entries.specs.declared.reply.Reply.TheVariants.{Finished, Stored, Dropped, Cancelled}
use Rattle.reg_entries.specs.declared.reply.Reply.TheVariants.{WrongStart, NotAllowed, Refused}
use Rattle.reg_replies.specs.declared.status.Status.{Status}
use Rattle.reg_replies.specs.declared.status.Status.TheVariants as status
use Rattle.reg_replies.specs.Statuses.{line_of}
use Rattle.reg_replies.specs.Refusals.{row_of}
use Rattle.reg_replies.specs.Json.{json_of}

-- ---- what a reply says, field by field

abbrev pub status_of : Reply → Status
status_of Base = status.Done
status_of (Manifest kind digest bytes) = status.Done
status_of (Blob digest size) = status.Done
status_of (Tags name tags more) = status.Done
status_of (Started name id) = status.Accepted
status_of (Mounted name digest) = status.Created
status_of (Patched name id offset) = status.Accepted
status_of (Offset name id offset) = status.NoContent
status_of (Finished name digest) = status.Created
status_of (Stored name digest) = status.Created
status_of Dropped = status.Accepted
status_of Cancelled = status.NoContent
status_of (WrongStart name id offset) = (row_of wrong_start).status
status_of (NotAllowed route) = (row_of method_not_allowed).status
status_of (Refused refusal) = (row_of refusal.number).status

-- the body; a blob's bytes are sent apart
abbrev pub body_of : Reply → List ℕ
body_of (Manifest kind digest bytes) = bytes
body_of reply = option_map_or compact_text (json_of reply) []

-- the media type of the body
abbrev pub type_of : Reply → Option (List ℕ)
type_of (Manifest kind digest bytes) = Some (media_type_of kind)
type_of (Blob digest size) = Some (codes "application/octet-stream")
type_of reply = option_map (λ json. codes "application/json") (json_of reply)

-- the length of the body, unless the status says that there is none
abbrev pub length_of : Reply → Option ℕ
length_of (Blob digest size) = Some size
length_of (Offset name id offset) = None
length_of Cancelled = None
length_of reply = Some (length (body_of reply))

-- the digest of what was sent or kept
abbrev pub digest_of : Reply → Option (List ℕ)
digest_of (Manifest kind digest bytes) = Some digest
digest_of (Blob digest size) = Some digest
digest_of (Mounted name digest) = Some digest
digest_of (Finished name digest) = Some digest
digest_of (Stored name digest) = Some digest
digest_of _ = None

-- the path of an upload
abbrev pub upload_path : List ℕ → List ℕ → List ℕ
upload_path name id = codes "/v2/" ++ (name ++ (codes "/blobs/uploads/" ++ upload_id_text id))

-- the path of a blob or a manifest, by the folder of these
abbrev pub content_path : List ℕ → List ℕ → List ℕ → List ℕ
content_path name folder digest = codes "/v2/" ++ (name ++ (codes "/" ++ (folder ++ (codes "/" ++ digest_text digest))))

-- where to go on, or where what was kept is
abbrev pub location_of : Reply → Option (List ℕ)
location_of (Started name id) = Some (upload_path name id)
location_of (Patched name id offset) = Some (upload_path name id)
location_of (Offset name id offset) = Some (upload_path name id)
location_of (WrongStart name id offset) = Some (upload_path name id)
location_of (Mounted name digest) = Some (content_path name (codes "blobs") digest)
location_of (Finished name digest) = Some (content_path name (codes "blobs") digest)
location_of (Stored name digest) = Some (content_path name (codes "manifests") digest)
location_of _ = None

-- how many bytes an upload has
abbrev pub offset_of : Reply → Option ℕ
offset_of (Started name id) = Some 0
offset_of (Patched name id offset) = Some offset
offset_of (Offset name id offset) = Some offset
offset_of (WrongStart name id offset) = Some offset
offset_of _ = None

-- the bytes of an upload, from the first to the last; `0-0` also where there is none
abbrev pub range_text : ℕ → List ℕ
range_text offset = codes "0-" ++ decimal (offset - 1)

-- where the tags behind these are listed (RFC 8288)
abbrev pub link_text : List ℕ → ℕ → List ℕ → List ℕ
link_text name n last =
    codes "</v2/" ++ (name ++ (codes "/tags/list?n=" ++ (decimal n
    ++ (codes "&last=" ++ (last ++ codes ">; rel=\"next\"")))))

-- there is a link where tags were listed and more follow
abbrev pub link_of : Reply → Option (List ℕ)
link_of (Tags name tags (Some n)) = option_map (link_text name n) (last_of None tags)
link_of _ = None

-- the methods of a route, as a field lists them
abbrev pub allow_text : Route → List ℕ
allow_text route = join_by method_text (codes ", ") (methods_of route)

-- a refusal that nothing is changed now names the methods that only read
abbrev pub refused_allow : ℕ → Option (List ℕ)
refused_allow number = if number == read_only then Some (allow_text routes.Base) else None

-- the methods that would not be refused
abbrev pub allow_of : Reply → Option (List ℕ)
allow_of (NotAllowed route) = Some (allow_text route)
allow_of (Refused refusal) = refused_allow refusal.number
allow_of _ = None

-- ---- the bytes

abbrev pub crlf : List ℕ
crlf = codes "\r\n"

-- one field of a head
abbrev pub field : List ℕ → List ℕ → List ℕ
field name value = name ++ (codes ": " ++ (value ++ crlf))

-- a field that is there where it has a value
abbrev pub optional : List ℕ → Option (List ℕ) → List ℕ
optional name None = []
optional name (Some value) = field name value

-- the status line, and the field that each reply has
abbrev pub opening : Reply → List ℕ
opening reply =
    codes "HTTP/1.1 " ++ (line_of (status_of reply)
    ++ (crlf ++ field (codes "Docker-Distribution-Api-Version") (codes "registry/2.0")))

-- ---- the fields of a reply, each where it applies

abbrev pub type_field : Reply → List ℕ
type_field reply = optional (codes "Content-Type") (type_of reply)

abbrev pub length_field : Reply → List ℕ
length_field reply = optional (codes "Content-Length") (option_map decimal (length_of reply))

abbrev pub digest_field : Reply → List ℕ
digest_field reply = optional (codes "Docker-Content-Digest") (option_map digest_text (digest_of reply))

abbrev pub location_field : Reply → List ℕ
location_field reply = optional (codes "Location") (location_of reply)

abbrev pub range_field : Reply → List ℕ
range_field reply = optional (codes "Range") (option_map range_text (offset_of reply))

abbrev pub link_field : Reply → List ℕ
link_field reply = optional (codes "Link") (link_of reply)

abbrev pub allow_field : Reply → List ℕ
allow_field reply = optional (codes "Allow") (allow_of reply)

abbrev pub closing_field : Bool → List ℕ
closing_field close = if close then field (codes "Connection") (codes "close") else []

-- the head of a reply: the status line, the fields in this order, and an empty line
abbrev pub head_of : Reply → Bool → List ℕ
head_of reply close =
    opening reply
    ++ (type_field reply
    ++ (length_field reply
    ++ (digest_field reply
    ++ (location_field reply
    ++ (range_field reply
    ++ (link_field reply
    ++ (allow_field reply
    ++ (closing_field close ++ crlf))))))))

-- the bytes of a reply: its head, and its body where that is not left out; a blob's bytes follow
abbrev pub wire : Reply → Bool → Bool → List ℕ
wire reply head_only close = head_of reply close ++ (if head_only then [] else body_of reply)

-- The JSON of replies (RFC 8259): each body is the compact text of its value.
use Rattle.std.specs.Prelude.{ℕ, List, map, codes, Option, Some, None}
use Rattle.serde_json.specs.Data.{Data, null, unsigned, number, string, array, object}
use Rattle.serde_json.specs.Data.{no_items, item, no_members, member}
use Rattle.serde_json.specs.View.{items_of}
use Rattle.reg_entries.specs.declared.reply.Reply.{Reply}
use Rattle.reg_entries.specs.declared.reply.Reply.TheVariants as replies
use Rattle.reg_entries.specs.declared.reply.Detail.{Detail}
use Rattle.reg_entries.specs.declared.reply.Detail.TheVariants.{Nothing, Number, Word}
use Rattle.reg_entries.specs.Numbers.{wrong_start, method_not_allowed}
use Rattle.reg_replies.specs.Refusals.{row_of}

-- a detail is a number, a string, or null
abbrev pub detail_json : Detail → Data
detail_json Nothing = null
detail_json (Number n) = number (unsigned n)
detail_json (Word text) = string text

-- one error: its code, its detail and its message
abbrev pub error_json : List ℕ → Data → List ℕ → Data
error_json code detail message =
    object (member (codes "code") (string code)
    (member (codes "detail") detail
    (member (codes "message") (string message) no_members)))

-- a refusal is a list of one error (OCI Distribution Specification 1.1, "Error Codes")
abbrev pub refusal_json : ℕ → Detail → Data
refusal_json n detail =
    object (member (codes "errors")
    (array (item (error_json (row_of n).code (detail_json detail) (row_of n).message) no_items)) no_members)

-- the tags of a repository, beside its name (OCI Distribution Specification 1.1, "Listing Tags")
abbrev pub tags_json : List ℕ → List (List ℕ) → Data
tags_json name tags =
    object (member (codes "name") (string name)
    (member (codes "tags") (array (items_of (map string tags))) no_members))

-- the value that the body of a reply is, where it is JSON
abbrev pub json_of : Reply → Option Data
json_of replies.Base = Some (object no_members)
json_of (replies.Tags name tags more) = Some (tags_json name tags)
json_of (replies.WrongStart name id offset) = Some (refusal_json wrong_start (Number offset))
json_of (replies.NotAllowed route) = Some (refusal_json method_not_allowed Nothing)
json_of (replies.Refused refusal) = Some (refusal_json refusal.number refusal.detail)
json_of (replies.Manifest kind digest bytes) = None
json_of (replies.Blob digest size) = None
json_of (replies.Started name id) = None
json_of (replies.Mounted name digest) = None
json_of (replies.Patched name id offset) = None
json_of (replies.Offset name id offset) = None
json_of (replies.Finished name digest) = None
json_of (replies.Stored name digest) = None
json_of replies.Dropped = None
json_of replies.Cancelled = None

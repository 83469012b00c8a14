-- The table of refusals: the status of each, its code (OCI Distribution Specification 1.1, "Error Codes") and its
-- message.
use Rattle.std.specs.Prelude.{◌≡◌, ℕ, ◌==◌, if◌then◌else◌, List, codes}
use Rattle.reg_entries.specs.Numbers as numbers
use Rattle.reg_replies.specs.declared.status.Status.{Status}
use Rattle.reg_replies.specs.declared.status.Status.TheVariants.{BadRequest, NotFound, MethodNotAllowed, Conflict}
use Rattle.reg_replies.specs.declared.status.Status.TheVariants.{ContentTooLarge, RangeNotSatisfiable, HeadTooLarge}
use Rattle.reg_replies.specs.declared.status.Status.TheVariants.{InternalServerError, ServiceUnavailable}
use Rattle.reg_replies.specs.declared.status.Status.TheVariants.{InsufficientStorage}
use Rattle.reg_replies.specs.declared.refusals.Row.{Row as TableRow}

-- how a refusal is told
pub record Row : Type 0 where
  pub status : Status
  pub code : List ℕ
  pub message : List ℕ

abbrev pub row : Status → List ℕ → List ℕ → Row
row status code message = record { status = status; code = code; message = message }

-- the row where the refusal has that number, and else what comes next
abbrev pub at : ℕ → ℕ → Status → List ℕ → List ℕ → Row → Row
at number n status code message next = if n == number then row status code message else next

-- a storage fault, also for a number that is no refusal's
abbrev pub fault_row : Row
fault_row = row InternalServerError (codes "FAULT") (codes "storage fault")

-- the row of a number
abbrev pub row_of : ℕ → Row
row_of n =
    (at numbers.name_invalid n BadRequest (codes "NAME_INVALID") (codes "invalid repository name")
    (at numbers.digest_invalid n BadRequest (codes "DIGEST_INVALID") (codes "invalid digest")
    (at numbers.name_unknown n NotFound (codes "NAME_UNKNOWN") (codes "repository unknown")
    (at numbers.blob_unknown n NotFound (codes "BLOB_UNKNOWN") (codes "blob unknown")
    (at numbers.manifest_unknown n NotFound (codes "MANIFEST_UNKNOWN") (codes "manifest unknown")
    (at numbers.manifest_invalid n BadRequest (codes "MANIFEST_INVALID") (codes "manifest invalid")
    (at numbers.content_unknown n BadRequest (codes "MANIFEST_BLOB_UNKNOWN") (codes "named content is unknown")
    (at numbers.upload_unknown n NotFound (codes "BLOB_UPLOAD_UNKNOWN") (codes "upload unknown")
    (at numbers.wrong_start n RangeNotSatisfiable (codes "BLOB_UPLOAD_INVALID") (codes "wrong start")
    (at numbers.upload_in_use n Conflict (codes "BLOB_UPLOAD_INVALID") (codes "upload in use")
    (at numbers.digest_differs n BadRequest (codes "DIGEST_INVALID") (codes "digest differs from the content")
    (at numbers.manifest_listed n Conflict (codes "MANIFEST_REFERENCED") (codes "manifest is listed by an index")
    (at numbers.read_only n MethodNotAllowed (codes "UNSUPPORTED") (codes "read-only during import")
    (at numbers.method_not_allowed n MethodNotAllowed (codes "UNSUPPORTED") (codes "method not allowed here")
    (at numbers.route_unknown n NotFound (codes "UNSUPPORTED") (codes "no such route")
    (at numbers.body_too_large n ContentTooLarge (codes "SIZE_INVALID") (codes "body too large")
    (at numbers.blob_busy n ServiceUnavailable (codes "BUSY") (codes "blob is being removed")
    (at numbers.not_a_request n BadRequest (codes "UNSUPPORTED") (codes "not a request of this profile")
    (at numbers.head_too_large n HeadTooLarge (codes "UNSUPPORTED") (codes "request head too large")
    (at numbers.storage_fault n InternalServerError (codes "FAULT") (codes "storage fault")
    (at numbers.no_memory n InsufficientStorage (codes "NO_MEMORY") (codes "no memory")
    (at numbers.journal_full n InsufficientStorage (codes "FULL") (codes "journal full")
    fault_row))))))))))))))))))))))

-- the call answers that row
abbrev pub IsRow : Row → TableRow → Type 0
IsRow r told = (told.status ≡ r.status) × (told.code.now ≡ r.code) × (told.message.now ≡ r.message)

-- The numbers of the refusals.
use Rattle.std.specs.Prelude.{ℕ}

-- no repository name
abbrev pub name_invalid : ℕ
name_invalid = 1

-- no digest
abbrev pub digest_invalid : ℕ
digest_invalid = 2

-- the repository has neither a manifest nor a link
abbrev pub name_unknown : ℕ
name_unknown = 3

-- the repository does not link the blob
abbrev pub blob_unknown : ℕ
blob_unknown = 4

-- the repository does not have the manifest
abbrev pub manifest_unknown : ℕ
manifest_unknown = 5

-- no manifest, or it has no reference. The detail names the fault
abbrev pub manifest_invalid : ℕ
manifest_invalid = 6

-- what a manifest names is not there. The detail is the least digest of that
abbrev pub content_unknown : ℕ
content_unknown = 7

-- the upload is not there
abbrev pub upload_unknown : ℕ
upload_unknown = 8

-- a body was to begin where the upload does not end. The detail is where it ends
abbrev pub wrong_start : ℕ
wrong_start = 9

-- another request has the upload
abbrev pub upload_in_use : ℕ
upload_in_use = 10

-- the digest is another than the content's, which is the detail
abbrev pub digest_differs : ℕ
digest_differs = 11

-- an index lists the manifest. The detail is the least digest of those that do
abbrev pub manifest_listed : ℕ
manifest_listed = 12

-- nothing is changed now
abbrev pub read_only : ℕ
read_only = 13

-- the route does not have the method
abbrev pub method_not_allowed : ℕ
method_not_allowed = 14

-- no route
abbrev pub route_unknown : ℕ
route_unknown = 15

-- the body is longer than its limit
abbrev pub body_too_large : ℕ
body_too_large = 16

-- the blob is being removed. The detail is the number of the entry that says so
abbrev pub blob_busy : ℕ
blob_busy = 17

-- no request of HTTP/1.1 as it is read here
abbrev pub not_a_request : ℕ
not_a_request = 18

-- the head is longer than its limit
abbrev pub head_too_large : ℕ
head_too_large = 19

-- a device failed
abbrev pub storage_fault : ℕ
storage_fault = 20

-- there was no memory
abbrev pub no_memory : ℕ
no_memory = 21

-- the journal is at its end
abbrev pub journal_full : ℕ
journal_full = 22

-- A blob in memory.
use Rattle.std.specs.Prelude.{ℕ, true, List, length, drop}
use Rattle.depot_api.specs.Blobs.{Rest}
use Rattle.depot_api.specs.Calls.{Calls}
use Rattle.depot_api.specs.declared.memory.blob.MemBlob.{MemBlob}

-- the bytes that are left to read
abbrev pub blob_left : MemBlob → List ℕ
blob_left b = drop b.at b.file

-- the reads that it has had
abbrev pub blob_reads : MemBlob → Calls
blob_reads b = b.reads

-- it tells them
abbrev pub blob_rest : MemBlob → Rest
blob_rest b = record { tells = true; count = length (blob_left b); bytes = blob_left b }

-- how often it has failed
abbrev pub blob_faults : MemBlob → ℕ
blob_faults b = (blob_reads b).faults

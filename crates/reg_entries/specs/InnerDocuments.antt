-- The proof's own: no public clause cites what stands here.
use Rattle.reg_entries.specs.Documents.{KeptManifest}
use Rattle.reg_entries.specs.declared.document.Document.TheInside.{Inside}

-- the fields of a document that is seen so
abbrev pub fields_of : KeptManifest → Inside
fields_of m = record { kind = m.kind; size = m.size; named = m.named; children = m.children }

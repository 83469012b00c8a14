-- The proof's own: no public clause cites what stands here.
use Rattle.std.specs.Prelude.{ℕ, List, ◌∷◌}
use Rattle.reg_names.specs.declared.reference.Reference.{Reference}
use Rattle.link_paths.specs.Places.{data_path, revision_path}
use Rattle.reg_model.specs.Changing.{tagged}
use Rattle.files_service.specs.Changing.{files_of_all, puts_link}
use Rattle.files_service.specs.declared.change.FileChange.{FileChange}
use Rattle.files_service.specs.declared.change.FileChange.TheVariants as file

-- the links of a manifest that is kept: its revision, and the tag, where it is pushed to one
abbrev pub manifest_links : List ℕ → Reference → List ℕ → List FileChange
manifest_links name at digest = puts_link (revision_path name digest) digest ∷ files_of_all (tagged name at digest)

-- its bytes, and its links
abbrev pub manifest_files : List ℕ → Reference → List ℕ → List ℕ → List FileChange
manifest_files name at digest bytes = file.Put (data_path digest) bytes ∷ manifest_links name at digest

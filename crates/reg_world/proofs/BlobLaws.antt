-- A finished upload is a blob that its repository links.
use Rattle.std.proofs.Common.{◌≡◌, ℕ, Bool, true, false, cond, ◌&&◌, if◌then◌else◌, List, length, Option, Some, None, refl, sym, ap, ◌∙◌}
use Rattle.std.specs.Prelude.{IsTrue, option_map}
use Rattle.depot_api.specs.Changes.{with_loan, with_put, bytes_or, StaysAt}
use Rattle.depot_api.specs.Files.{Files, with_at}
use Rattle.depot_api.specs.Holdings.{Holding}
use Rattle.depot_api.specs.Stages.{Staged}
use Rattle.depot_api.proofs.ChangeLaws.{stays_put}
use Rattle.depot_api.proofs.SlotLaws.{at_itself}
use Rattle.files_service.specs.Finishing.{done, with_blob}
use Rattle.link_paths.specs.Places.{data_path, layer_path, place_path, IsPlace}
use Rattle.link_paths.specs.declared.place.Place.{Place}
use Rattle.link_paths.specs.declared.place.Place.TheVariants.{BlobData, Layer}
use Rattle.link_paths.proofs.ApartPlaces.{same_place}
use Rattle.link_reading.specs.Meaning.{links_to, link_at}
use Rattle.link_reading.proofs.MeaningLaws.{links_to-text}
use Rattle.reg_claims.specs.declared.claim.Held.{Held}
use Rattle.reg_entries.specs.declared.reply.Reply.{Reply}
use Rattle.reg_names.specs.Digests.{digest_text, IsDigest}
use Rattle.reg_names.specs.Names.{is_name, IsName}
use Rattle.reg_world.specs.Laws.{HasBlob}
use Rattle.reg_world.specs.Moves.{Move, came_to, finishes}
use Rattle.reg_world.specs.Worlds.{Data}

-- what was put at a path is there
put_there : (held : Holding) (at : List (List ℕ)) (bytes : List ℕ) → IsTrue held.tells → (with_put held at bytes).files at ≡ Some bytes
put_there held at bytes tells =
    ap (λ t. cond t (with_at held.files at (Some bytes)) held.files at) tells ∙ ap (λ c. cond c (Some bytes) (held.files at)) (at_itself at)

-- data and links lie apart
data_apart : (name digest : List ℕ) → IsName name → IsDigest digest → layer_path name digest ≡ data_path digest → ⊥
data_apart name digest named is same = cc (same_place (Layer name digest) (BlobData digest) (named, is) is same)

by_tests : (named linked : Bool) (size : Option ℕ) → named ≡ true → linked ≡ true → (if named && linked then size else None) ≡ size
by_tests named linked size one two = (λ i. if one i && two i then size else None)

pub blob_there : (w v : Data) (held : Held) (staged : Staged) (digest : List ℕ) (reply : Reply) → IsTrue w.held.tells → IsName held.name → IsDigest digest
    → Move w (finishes held staged digest) (came_to (done reply)) v → HasBlob w.held.files v.held.files held.name digest staged
blob_there w v held staged digest reply tells named is move =
    let bytes = bytes_or staged.bytes w.held.files (data_path digest) in
    let placed = with_blob staged digest w.held in
    let made = move.0.2 in
    let apart = stays_put placed (layer_path held.name digest) (data_path digest) (digest_text digest) (data_apart held.name digest named is) in
    let there : v.held.files (data_path digest) ≡ Some bytes =
    ap (λ (h : Holding). h.files (data_path digest)) made ∙ apart.file ∙ put_there (with_loan w.held staged.path false) (data_path digest) bytes tells in
    let link : v.held.files (layer_path held.name digest) ≡ Some (digest_text digest) =
    ap (λ (h : Holding). h.files (layer_path held.name digest)) made ∙ put_there placed (layer_path held.name digest) (digest_text digest) tells in
    record {
      bytes = bytes;
      those = refl;
      file = there;
      linked = by_tests (is_name held.name) (links_to (v.held.files (layer_path held.name digest)) digest) (option_map length (v.held.files (data_path digest))) named (links_to-text (v.held.files (layer_path held.name digest)) digest is link)
          ∙ ap (option_map length) there;
    }

-- What an entry leaves as it was.
use Rattle.std.specs.Prelude.{◌≡◌, ◌≢◌, ℕ, List, Option, Some, IfSome}
use Rattle.reg_journal.specs.declared.entry.What.{What}
use Rattle.reg_journal.specs.Kinds.{digest_of, tag_of}
use Rattle.reg_journal.specs.Past.{Past}

-- the repository has the same before and after
pub record IsSameIn (name : List ℕ) (before after : Past) : Type 0 where
  pub manifests : (digest : List ℕ) → after.manifests name digest ≡ before.manifests name digest
  pub links : (digest : List ℕ) → after.links name digest ≡ before.links name digest
  pub tags : (tag : List ℕ) → after.tags name tag ≡ before.tags name tag

-- the same repositories have a manifest of the digest, and link it, and it is rowed and condemned as before
pub record IsSameAt (digest : List ℕ) (before after : Past) : Type 0 where
  pub manifests : (name : List ℕ) → after.manifests name digest ≡ before.manifests name digest
  pub links : (name : List ℕ) → after.links name digest ≡ before.links name digest
  pub sizes : after.sizes digest ≡ before.sizes digest
  pub condemned : after.condemned digest ≡ before.condemned digest

-- the entry names neither the tag of the repository nor the digest that it points to
pub record IsApart (what : What) (tag : List ℕ) (target : Option (List ℕ)) : Type 0 where
  pub other : tag_of what ≢ Some tag
  pub elsewhere : IfSome target (λ digest. digest_of what ≢ Some digest)

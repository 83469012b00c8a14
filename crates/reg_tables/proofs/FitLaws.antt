-- Rows that may stand at keys.
use Rattle.std.proofs.Common.{◌≡◌, ℕ, ◌≤◌, Bool, List, [], ◌∷◌, ◌++◌, append_assoc, append-nil, refl, sym, subst, inl, inr}
use Rattle.reg_names.specs.declared.kind.Kind.{Kind}
use Rattle.reg_names.specs.Digests.{IsDigest}
use Rattle.reg_names.specs.Names.{IsName}
use Rattle.reg_names.specs.Tags.{IsTag}
use Rattle.reg_journal.specs.declared.entry.Entry.{Entry}
use Rattle.reg_journal.specs.Entries.{IsNumber, IsEntry}
use Rattle.reg_journal.specs.Spelling.{number_field, kind_field, free_field, entry_spelled}
use Rattle.keeper_api.specs.declared.field.Field.{Field}
use Rattle.keeper_api.specs.declared.field.Field.TheVariants as field
use Rattle.keeper_api.specs.Fields.{ended, Spells, AreFields}
use Rattle.keeper_api.specs.Tables.{Fits, standings, IsOneOf}

one : (f : Field) (x : List ℕ) → Spells f x → AreFields (f ∷ []) x
one f x s = (x, [], s, refl, sym (append-nil x))

more : (f : Field) (fs : List Field) (x rest : List ℕ) → Spells f x → AreFields fs rest → AreFields (f ∷ fs) (x ++ rest)
more f fs x rest s a = (x, rest, s, a, refl)

spot_fields : (name digest : List ℕ) → IsName name → IsDigest digest → AreFields (field.EndedName ∷ field.Digest ∷ []) (ended name ++ digest)
spot_fields name digest is digest_is = more field.EndedName (field.Digest ∷ []) (ended name) digest (name, is, refl) (one field.Digest digest digest_is)

pair_fields : (name first second : List ℕ) → IsName name → IsDigest first → IsDigest second → AreFields (field.EndedName ∷ field.Digest ∷ field.Digest ∷ []) ((ended name ++ first) ++ second)
pair_fields name first second is first_is second_is =
    subst (AreFields (field.EndedName ∷ field.Digest ∷ field.Digest ∷ [])) (sym (append_assoc (ended name) first second))
    (more field.EndedName (field.Digest ∷ field.Digest ∷ []) (ended name) (first ++ second) (name, is, refl) (more field.Digest (field.Digest ∷ []) first second first_is (one field.Digest second second_is)))

two_numbers : (m n : ℕ) → IsNumber m → IsNumber n → AreFields (field.Number ∷ field.Number ∷ []) (number_field m ++ number_field n)
two_numbers m n m_is n_is = more field.Number (field.Number ∷ []) (number_field m) (number_field n) (m, m_is, refl) (one field.Number (number_field n) (n, n_is, refl))

pub last_number_fits : (number : ℕ) → IsNumber number → Fits (0 ∷ 3 ∷ []) (number_field number)
last_number_fits number is =
    inr (inr (inr (inl (record { at_table = refl; key_fields = one (field.Byte 3) (3 ∷ []) refl; row_form = one field.Number (number_field number) (number, is, refl) }))))

pub entry_fits : (number : ℕ) (entry : Entry) → IsNumber number → 1 ≤ number → IsEntry entry → Fits (1 ∷ number_field number) (entry_spelled entry)
entry_fits number entry is some entry_is =
    inr (inr (inr (inr (inl (record { at_table = refl; key_fields = one field.Positive (number_field number) (number, is, some, refl); row_form = (entry, entry_is, refl) })))))

pub manifest_fits : (name digest : List ℕ) (kind : Kind) (size touched : ℕ) → IsName name → IsDigest digest → IsNumber size → IsNumber touched → Fits (2 ∷ (ended name ++ digest)) (kind_field kind ++ (number_field size ++ number_field touched))
manifest_fits name digest kind size touched is digest_is size_is touched_is =
    inr (inr (inr (inr (inr (inl (record {
      at_table = refl;
      key_fields = spot_fields name digest is digest_is;
      row_form = more field.Kind (field.Number ∷ field.Number ∷ []) (kind_field kind) (number_field size ++ number_field touched) (kind, refl) (two_numbers size touched size_is touched_is);
    }))))))

pub tag_fits : (name tag digest : List ℕ) → IsName name → IsTag tag → IsDigest digest → Fits (4 ∷ (ended name ++ ended tag)) digest
tag_fits name tag digest is tag_is digest_is =
    inr (inr (inr (inr (inr (inr (inr (inl (record {
      at_table = refl;
      key_fields = more field.EndedName (field.EndedTag ∷ []) (ended name) (ended tag) (name, is, refl) (one field.EndedTag (ended tag) (tag, tag_is, refl));
      row_form = one field.Digest digest digest_is;
    }))))))))

pub named_fits : (name manifest digest : List ℕ) (free : Bool) → IsName name → IsDigest manifest → IsDigest digest → Fits (5 ∷ ((ended name ++ manifest) ++ digest)) (free_field free)
named_fits name manifest digest free is manifest_is digest_is =
    inr (inr (inr (inr (inr (inr (inr (inr (inl (record {
      at_table = refl;
      key_fields = pair_fields name manifest digest is manifest_is digest_is;
      row_form = one field.Free (free_field free) (free, refl);
    })))))))))

pub child_fits : (name parent child : List ℕ) → IsName name → IsDigest parent → IsDigest child → Fits (6 ∷ ((ended name ++ parent) ++ child)) []
child_fits name parent child is parent_is child_is =
    inr (inr (inr (inr (inr (inr (inr (inr (inr (inl (record { at_table = refl; key_fields = pair_fields name parent child is parent_is child_is; row_form = refl }))))))))))

pub link_fits : (name digest : List ℕ) (size moment : ℕ) → IsName name → IsDigest digest → IsNumber size → IsNumber moment → Fits (7 ∷ (ended name ++ digest)) (number_field size ++ number_field moment)
link_fits name digest size moment is digest_is size_is moment_is =
    inr (inr (inr (inr (inr (inr (inr (inr (inr (inr (inl (record { at_table = refl; key_fields = spot_fields name digest is digest_is; row_form = two_numbers size moment size_is moment_is })))))))))))

blob_fits : (digest row : List ℕ) → IsDigest digest → IsOneOf standings row → Fits (8 ∷ digest) row
blob_fits digest row is form =
    inr (inr (inr (inr (inr (inr (inr (inr (inr (inr (inr (inl (record { at_table = refl; key_fields = one field.Digest digest is; row_form = form }))))))))))))

pub pending_fits : (digest : List ℕ) (touched : ℕ) → IsDigest digest → IsNumber touched → Fits (8 ∷ digest) (1 ∷ number_field touched)
pending_fits digest touched is touched_is =
    blob_fits digest (1 ∷ number_field touched) is (inl (more (field.Byte 1) (field.Number ∷ []) (1 ∷ []) (number_field touched) refl (one field.Number (number_field touched) (touched, touched_is, refl))))

pub here_fits : (digest : List ℕ) (size touched : ℕ) → IsDigest digest → IsNumber size → IsNumber touched → Fits (8 ∷ digest) (2 ∷ (number_field size ++ number_field touched))
here_fits digest size touched is size_is touched_is =
    blob_fits digest (2 ∷ (number_field size ++ number_field touched)) is
    (inr (inl (more (field.Byte 2) (field.Number ∷ field.Number ∷ []) (2 ∷ []) (number_field size ++ number_field touched) refl (two_numbers size touched size_is touched_is))))

pub doomed_fits : (digest : List ℕ) (entry : ℕ) → IsDigest digest → IsNumber entry → Fits (8 ∷ digest) (3 ∷ number_field entry)
doomed_fits digest entry is entry_is =
    blob_fits digest (3 ∷ number_field entry) is
    (inr (inr (inl (more (field.Byte 3) (field.Number ∷ []) (3 ∷ []) (number_field entry) refl (one field.Number (number_field entry) (entry, entry_is, refl))))))

-- what may stand, by what key and row are
pub fits_so : (table : ℕ) (key key′ row row′ : List ℕ) → key′ ≡ key → row′ ≡ row → Fits (table ∷ key) row → Fits (table ∷ key′) row′
fits_so table key key′ row row′ same alike h = subst (λ (k : List ℕ). Fits (table ∷ k) row′) (sym same) (subst (λ (r : List ℕ). Fits (table ∷ key) r) (sym alike) h)

pub payload_fits : (name digest bytes : List ℕ) → IsName name → IsDigest digest → Fits (3 ∷ (ended name ++ digest)) bytes
payload_fits name digest bytes is digest_is =
    inr (inr (inr (inr (inr (inr (inl (record { at_table = refl; key_fields = spot_fields name digest is digest_is; row_form = tt })))))))

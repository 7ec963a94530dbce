-- Names of scopes, gathered from the inside, and their texts with dots between them.
use Rattle.std.proofs.Common.{◌≡◌, ℕ, suc, Option, Some, List, [], ◌∷◌, ◌++◌, refl, sym, ap, ◌∙◌, append_assoc, append-nil}
use Rattle.jv_tree.specs.declared.names.NameId.{NameId}
use Rattle.jv_layout.specs.declared.rows.PackageRow.{PackageRow}
use Rattle.jv_layout.specs.declared.rows.TypeRow.{TypeRow}
use Rattle.jv_layout.specs.Folder.{LayoutOf, text_of}
use Rattle.jv_layout.specs.Readers.{type_at}
use Rattle.jv_layout.specs.Skeleton.{package_row_at}
use Rattle.jv_layout.specs.Titles.{outward, following, dotted, package_names, type_names}

outward-push : (ids : List NameId) (n : NameId) → outward (ids ++ n ∷ []) ≡ n.0 ∷ outward ids
outward-push [] n = refl
outward-push (i ∷ ids) n = ap (λ (z : List ℕ). z ++ i.0 ∷ []) (outward-push ids n)

one_more : (ns : List ℕ) (ids : List NameId) (n : NameId) → (ns ++ n.0 ∷ []) ++ outward ids ≡ ns ++ outward (ids ++ n ∷ [])
one_more ns ids n = append_assoc ns (n.0 ∷ []) (outward ids) ∙ ap (λ (z : List ℕ). ns ++ z) (sym (outward-push ids n))

module _ (l : LayoutOf) where
  -- one package outward
  pub package_round : (m k p : ℕ) (at : Option ℕ) (row : PackageRow) (old new : List NameId) (whole : List ℕ) → m ≡ suc k → at ≡ Some p → row ≡ package_row_at l p → new ≡ old ++ row.name ∷ []
      → package_names l m at ++ outward old ≡ whole → package_names l k row.parent ++ outward new ≡ whole
  package_round m k p at row old new whole a b r e h =
      ap (λ (z : List NameId). package_names l k row.parent ++ outward z) e ∙ (sym (one_more (package_names l k row.parent) old row.name)
      ∙ (ap (λ (q : PackageRow). (package_names l k q.parent ++ q.name.0 ∷ []) ++ outward old) r
      ∙ (ap (λ (o : Option ℕ). package_names l (suc k) o ++ outward old) (sym b) ∙ (ap (λ (n : ℕ). package_names l n at ++ outward old) (sym a) ∙ h))))

  -- one type outward
  pub type_round : (m k t : ℕ) (at : Option ℕ) (row : TypeRow) (old new : List NameId) (whole : List ℕ) → m ≡ suc k → at ≡ Some t → row ≡ type_at l t → new ≡ old ++ row.name ∷ []
      → type_names l m at ++ outward old ≡ whole → type_names l k row.owner ++ outward new ≡ whole
  type_round m k t at row old new whole a b r e h =
      ap (λ (z : List NameId). type_names l k row.owner ++ outward z) e ∙ (sym (one_more (type_names l k row.owner) old row.name)
      ∙ (ap (λ (q : TypeRow). (type_names l k q.owner ++ q.name.0 ∷ []) ++ outward old) r
      ∙ (ap (λ (o : Option ℕ). type_names l (suc k) o ++ outward old) (sym b) ∙ (ap (λ (n : ℕ). type_names l n at ++ outward old) (sym a) ∙ h))))

module _ (names : List (List ℕ)) where
  pub dotted_first : (n : ℕ) (ns : List ℕ) → text_of names n ++ following names ns ≡ dotted names (n ∷ ns)
  dotted_first n [] = append-nil (text_of names n)
  dotted_first n (m ∷ ns) = ap (λ (z : List ℕ). text_of names n ++ 46 ∷ z) (dotted_first m ns)

  following_step : (text : List ℕ) (ids : List NameId) (n : NameId) → ((text ++ 46 ∷ []) ++ text_of names n.0) ++ following names (outward ids) ≡ text ++ following names (outward (ids ++ n ∷ []))
  following_step text ids n =
      append_assoc (text ++ 46 ∷ []) (text_of names n.0) (following names (outward ids)) ∙ (append_assoc text (46 ∷ []) (text_of names n.0 ++ following names (outward ids))
      ∙ ap (λ (z : List ℕ). text ++ following names z) (sym (outward-push ids n)))

  -- one name more behind a dot
  pub following_round : (t0 t1 t2 x y : List ℕ) (old new : List NameId) (n : NameId) (whole : List ℕ) → t1 ≡ t0 ++ x → x ≡ 46 ∷ [] → t2 ≡ t1 ++ y → y ≡ text_of names n.0 → old ≡ new ++ n ∷ []
      → t0 ++ following names (outward old) ≡ whole → t2 ++ following names (outward new) ≡ whole
  following_round t0 t1 t2 x y old new n whole a b c d e h =
      let one : t1 ≡ t0 ++ 46 ∷ [] = a ∙ ap (λ (z : List ℕ). t0 ++ z) b in
      let two : t2 ≡ (t0 ++ 46 ∷ []) ++ text_of names n.0 = c ∙ (ap (λ (z : List ℕ). z ++ y) one ∙ ap (λ (z : List ℕ). (t0 ++ 46 ∷ []) ++ z) d) in
      ap (λ (z : List ℕ). z ++ following names (outward new)) two ∙ (following_step t0 new n ∙ (ap (λ (z : List NameId). t0 ++ following names (outward z)) (sym e) ∙ h))

  -- the first name, and those that follow
  pub dotted_round : (t0 t1 t2 y : List ℕ) (old new : List NameId) (n : NameId) → t0 ≡ [] → t1 ≡ t0 ++ y → y ≡ text_of names n.0 → t2 ≡ t1 ++ following names (outward new) → old ≡ new ++ n ∷ []
      → t2 ≡ dotted names (outward old)
  dotted_round t0 t1 t2 y old new n a b c d e =
      let first : t1 ≡ text_of names n.0 = b ∙ (ap (λ (z : List ℕ). z ++ y) a ∙ c) in
      d ∙ (ap (λ (z : List ℕ). z ++ following names (outward new)) first ∙ (dotted_first n.0 (outward new) ∙ ap (dotted names) (sym (outward-push new n) ∙ ap outward (sym e))))

-- A folder's headers over its skeleton are a program, and its run begins in that program's setting.
use Rattle.std.proofs.Common.{◌≡◌, ℕ, ◌+◌, ◌-◌, ◌<◌, ◌↔◌, List, ◌⊎◌, IsTrue, length, inl, inr, sym, ap, ◌∙◌, subst, arith, lt-ltb}
use Rattle.std.specs.List.{Contains}
use Rattle.std.proofs.lemmas.Bool.Decides.{leb_tells}
use Rattle.std.proofs.lemmas.List.{length-replicate}
use Rattle.sg_base.specs.declared.scope.Scope.{Scope}
use Rattle.sg_base.specs.Graph.{GraphOf}
use Rattle.sg_headers.specs.Setting.{IsProgramSetting}
use Rattle.sg_state.specs.Held.{HoldsRow}
use Rattle.sg_state.proofs.SoundOpenings.{edge_in, scope_in}
use Rattle.sg_strata.specs.Program.{IsProgram, IsQuiet}
use Rattle.sg_unit.specs.Run.{Setting}
use Rattle.jv_instance.specs.declared.datum.JavaDatum.{JavaDatum}
use Rattle.jv_instance.specs.declared.labels.TheConstants.{EXT}
use Rattle.jv_instance.specs.declared.pred.JavaPred.{JavaPred}
use Rattle.jv_instance.specs.Data.{is_wanted}
use Rattle.jv_layout.specs.Folder.{LayoutOf}
use Rattle.jv_layout.specs.Readers.{types_of}
use Rattle.jv_layout.specs.Scopes.{first_type, signature_of_member, type_scope}
use Rattle.jv_layout.specs.Skeleton.{skeleton_of}
use Rattle.jv_layout.proofs.SoundLists.{from_image, in_image}
use Rattle.jv_header.specs.Law.{IsOver, ReachesSignaturesBySig, signatures_of}
use Rattle.jv_header.proofs.Programs.{are_programs, are_quiet, signature_edges_labelled, starts_at_none}
use Rattle.jv_unit.specs.Folder.{FolderOf, IsFolderOf}
use Rattle.jv_unit.specs.Trees.{extends_of, implements_of}
use Rattle.sc_app.specs.FolderGraph.{IsSkeleton, decl_of, headers_of}
use Rattle.sc_app.specs.FolderLaw.{roles_of}
use Rattle.sc_app.specs.FolderRun.{ruled, same_datum}
use Rattle.sc_app.proofs.HeaderHolds.{begun, begun_opens, datum_held, holds_file_row, holds_type_row, row_cases, skeleton_sound}
use Rattle.sc_app.proofs.HeaderKinds.{asked_alike}
use Rattle.sc_app.proofs.HeaderSkeleton.{skeleton_edge}

-- the setting of the runs of a folder
abbrev pub folder_setting : FolderOf → Setting JavaDatum JavaPred
folder_setting w = record { opening = begun w; kinds = w.kinds; wants = is_wanted; same = same_datum }

-- the number of a type from its scope
pub type_number : (l : LayoutOf) (t : ℕ) → (first_type l + t) - first_type l ≡ t
type_number l t = omega arith

module _ (w : FolderOf) (h : IsFolderOf w) (g : GraphOf JavaDatum) (k : IsSkeleton (ruled w) g) where
  -- ---- the program

  is_over : IsOver w.layout g
  is_over = record {
    linked = h.linked;
    graph = k.graph;
    scopes = λ s. subst (λ (ss : List Scope). (Contains ss s) ↔ (Contains (skeleton_of w.layout).scopes s)) (sym k.scopes) (scope_in (skeleton_of w.layout) (skeleton_sound w h) s);
  }

  reaches : ReachesSignaturesBySig w.layout g
  reaches s l t e c = elim (skeleton_edge w h g k (record { from = s; label = l; to = t }) e) [
    | inl old ↦
        signature_edges_labelled w.layout h.linked (record { from = s; label = l; to = t })
        ((edge_in (skeleton_of w.layout) (skeleton_sound w h) (record { from = s; label = l; to = t })).0 old) c
    | inr new ↦ absurd (starts_at_none w.layout t (new.2).to c)
  ]

  pub folder_program : IsProgram (headers_of (ruled w) g)
  folder_program = are_programs w.layout w.names (λ c. extends_of (decl_of (ruled w) c)) (λ c. implements_of (decl_of (ruled w) c)) g is_over

  pub folder_quiet : IsQuiet (headers_of (ruled w) g)
  folder_quiet = are_quiet w.layout w.names (λ c. extends_of (decl_of (ruled w) c)) (λ c. implements_of (decl_of (ruled w) c)) g is_over reaches

  -- ---- the setting

  type_rows : (c : Scope) → Contains (types_of w.layout) c → HoldsRow (begun w) ((roles_of w.layout).reader c) c EXT
  type_rows c i =
      let x = from_image (type_scope w.layout) (length w.layout.types) c i in
      subst (λ (s : Scope). HoldsRow (begun w) ((roles_of w.layout).reader s) s EXT) (sym x.2)
      (subst (λ (n : ℕ). HoldsRow (begun w) (length w.layout.files + n) (type_scope w.layout x.0) EXT) (sym (type_number w.layout x.0)) (holds_type_row w h x.0 x.1))

  is_type : (t : ℕ) → t < length w.layout.types → Contains (types_of w.layout) (type_scope w.layout t)
  is_type t b = in_image (type_scope w.layout) (length w.layout.types) t b

  reader_is : (t : ℕ) → (roles_of w.layout).reader (type_scope w.layout t) ≡ length w.layout.files + t
  reader_is t = ap (λ (n : ℕ). length w.layout.files + n) (type_number w.layout t)

  each_unit : (u : ℕ) → u < length w.layout.files + length w.layout.types → ((c : Scope) × Contains (types_of w.layout) c × ((roles_of w.layout).reader c ≡ u)) ⊎ IsTrue ((roles_of w.layout).imports u)
  each_unit u b = elim (leb_tells (length w.layout.files) u) [
    | inl past ↦
        let t = u - length w.layout.files in
        let far = past.1 in
        inl (type_scope w.layout t, is_type t (omega (arith, b, far)), omega (arith, reader_is t, far))
    | inr below ↦ inr (lt-ltb u (length w.layout.files) below.1)
  ]

  pub is_setting : IsProgramSetting (headers_of (ruled w) g) (folder_setting w) (roles_of w.layout)
  is_setting = record {
    opening = begun_opens w h;
    asked = λ q. asked_alike w.kinds h.kinds q;
    scopes = sym k.scopes;
    edges = λ s l t e. (k.edges (record { from = s; label = l; to = t })).1 (inl e);
    imported = λ s l t e. elim (skeleton_edge w h g k (record { from = s; label = l; to = t }) e) [
      | inl old ↦ inl old
      | inr new ↦
          inr (new.0, lt-ltb new.0 (length w.layout.files) new.1, subst (λ (x : Scope). HoldsRow (begun w) new.0 x l) (sym (new.2).from) (holds_file_row w h new.0 new.1 l (new.2).label))
    ];
    given = sym k.given;
    types = type_rows;
    rows = λ u s l c. elim (row_cases w h u s l c) [
      | inl f ↦ inr (lt-ltb u (length w.layout.files) f.file)
      | inr t ↦
          inl (
            subst (λ (x : Scope). Contains (types_of w.layout) x) (sym t.scope) (is_type t.number t.type),
            t.label,
            t.unit ∙ (sym (reader_is t.number) ∙ ap (λ (x : Scope). (roles_of w.layout).reader x) (sym t.scope)),
          )
    ];
    unset = λ u s c.
        let d = datum_held w h u s c in
        subst (λ (x : Scope). Contains (signatures_of w.layout) x) (sym d.scope) (in_image (signature_of_member w.layout) (length w.layout.members) d.number d.member);
    units = λ u b. each_unit u (omega (arith, b, length-replicate {A = ℕ} (length w.layout.files + length w.layout.types) 0));
  }

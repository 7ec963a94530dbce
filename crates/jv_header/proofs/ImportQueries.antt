-- Imports ask for types and packages that a package or a type declares itself, and for nothing else.
use Rattle.std.proofs.Common.{ℕ, Bool, true, false, cond, List, [], ◌∷◌, ◌++◌, Option, Some, None, inl, inr, refl}
use Rattle.sg_base.specs.declared.scope.Scope.{Scope}
use Rattle.sg_query.specs.declared.query.Query.{Query}
use Rattle.sg_reading.specs.Reading.{done, and_then, AllAsked, each}
use Rattle.sg_reading.proofs.Asking.{and_then-asked, each-asked}
use Rattle.jv_instance.specs.declared.access.Access.{Access}
use Rattle.jv_instance.specs.declared.access.Access.TheVariants.{Public, Protected, Package, Private}
use Rattle.jv_instance.specs.declared.pred.JavaPred.{JavaPred}
use Rattle.jv_layout.specs.Folder.{LayoutOf}
use Rattle.jv_layout.specs.Readers.{access_of, owner_scope}
use Rattle.jv_tree.specs.declared.name.Ident.{Ident}
use Rattle.jv_tree.specs.declared.names.NameId.{NameId}
use Rattle.jv_tree.specs.DeclTree.{ImportTree}
use Rattle.jv_names.specs.declared.counts.Counts.{Counts}
use Rattle.jv_names.specs.declared.counts.Counts.TheVariants.{OwnPackages, OwnTypes}
use Rattle.jv_names.specs.declared.meaning.Meaning.{Meaning}
use Rattle.jv_names.specs.declared.meaning.Meaning.TheVariants.{One, Nothing, Ambiguous, TooMany}
use Rattle.jv_names.specs.declared.qualifier.Qualifier.{Qualifier}
use Rattle.jv_names.specs.declared.qualifier.Qualifier.TheVariants.{InPackage, InType}
use Rattle.jv_names.specs.declared.resolved.Resolved.{Resolved}
use Rattle.jv_names.specs.Access.{is_same_package, has_super, some_body, member_type_by, type_accessible_by, type_accessible}
use Rattle.jv_names.specs.Names.{look_up, ended, on_one, type_part, package_type, subpackage, further_parts, import_context, import_name, import_rule, sought_ids, takes_packages}
use Rattle.jv_names.specs.Reference.{refused}
use Rattle.jv_names.specs.Replies.{Rule}
use Rattle.jv_header.specs.Imports.{import_reference, imports_from, no_imports}
use Rattle.jv_header.specs.Law.{AsksForOwn, ImportsAskForOwn}

look_up_asks : (l : LayoutOf) (c : Counts) (q : Query JavaPred) → AsksForOwn q → AllAsked AsksForOwn (look_up l c q)
unfolding look_up
look_up_asks l c q h = (h, λ a. tt)

module _ (l : LayoutOf) where
  -- in an import each part stands behind a package or is declared by the type before it
  part_asks : (all : Bool) (t : Scope) (n : NameId) → AllAsked AsksForOwn (type_part l (import_context all) t n)
  part_asks true t n = look_up_asks l OwnTypes _ (inl refl)
  part_asks false t n = look_up_asks l OwnTypes _ (inl refl)

  one_asks : (m : Meaning) (types : List Scope) (found : Scope → Rule Resolved) (next : Rule Resolved) → ((s : Scope) → AllAsked AsksForOwn (found s)) → AllAsked AsksForOwn next → AllAsked AsksForOwn (on_one m types found next)
  one_asks (One s) types found next f h = f s
  one_asks Nothing types found next f h = h
  one_asks Ambiguous types found next f h = tt
  one_asks TooMany types found next f h = tt

  further_asks : (all : Bool) (at : Qualifier) (types : List Scope) (ids : List Ident) → AllAsked AsksForOwn (further_parts l (import_context all) at types ids)
  further_asks all (InType t) types [] = tt
  further_asks all (InPackage p) types [] = tt
  further_asks all (InType t) types (n ∷ ns) =
      and_then-asked AsksForOwn (type_part l (import_context all) t n.id) (λ m. on_one m types (λ s. further_parts l (import_context all) (InType s) (types ++ s ∷ []) ns) (ended Nothing types)) (part_asks all t n.id)
      (λ m. one_asks m types (λ s. further_parts l (import_context all) (InType s) (types ++ s ∷ []) ns) (ended Nothing types) (λ s. further_asks all (InType s) (types ++ s ∷ []) ns) tt)
  further_asks all (InPackage p) types (n ∷ ns) =
      let behind : Rule Resolved = and_then (subpackage l p n.id) (λ k. on_one k types (λ q. further_parts l (import_context all) (InPackage q) types ns) (ended Nothing types)) in
      let behind_asks : AllAsked AsksForOwn behind =
      and_then-asked AsksForOwn (subpackage l p n.id) (λ k. on_one k types (λ q. further_parts l (import_context all) (InPackage q) types ns) (ended Nothing types)) (look_up_asks l OwnPackages _ (inr refl))
      (λ k. one_asks k types (λ q. further_parts l (import_context all) (InPackage q) types ns) (ended Nothing types) (λ q. further_asks all (InPackage q) types ns) tt) in
      and_then-asked AsksForOwn (package_type l p n.id) (λ m. on_one m types (λ s. further_parts l (import_context all) (InType s) (types ++ s ∷ []) ns) behind) (look_up_asks l OwnTypes _ (inl refl))
      (λ m. one_asks m types (λ s. further_parts l (import_context all) (InType s) (types ++ s ∷ []) ns) behind (λ s. further_asks all (InType s) (types ++ s ∷ []) ns) behind_asks)

  name_asks : (all : Bool) (ids : List Ident) → AllAsked AsksForOwn (import_name l all ids)
  name_asks all [] = tt
  name_asks all (n ∷ ns) =
      and_then-asked AsksForOwn (subpackage l _ n.id) (λ k. on_one k [] (λ q. further_parts l (import_context all) (InPackage q) [] ns) (ended Nothing [])) (look_up_asks l OwnPackages _ (inr refl))
      (λ k. one_asks k [] (λ q. further_parts l (import_context all) (InPackage q) [] ns) (ended Nothing []) (λ q. further_asks all (InPackage q) [] ns) tt)

  -- outside all bodies the access of a type asks nothing
  access_asks : (file : ℕ) (t d : Scope) (a : Access) → AllAsked AsksForOwn (member_type_by l file [] t d a)
  access_asks file t d Public = tt
  access_asks file t d Private = tt
  access_asks file t d Package = tt
  access_asks file t d Protected = elim (is_same_package l file t) as (λ (b : Bool). AllAsked AsksForOwn (cond b (done true) (some_body (has_super l d) []))) [ true ↦ tt | false ↦ tt ]

  owner_asks : (file : ℕ) (t : Scope) (o : Option Scope) → AllAsked AsksForOwn (type_accessible_by l file [] t o)
  owner_asks file t None = tt
  owner_asks file t (Some d) = access_asks file t d (access_of l t)

  refused_asks : (file : ℕ) (so_far ts : List Scope) → AllAsked AsksForOwn (refused l file [] so_far ts)
  refused_asks file so_far [] = tt
  refused_asks file so_far (t ∷ ts) =
      and_then-asked AsksForOwn (type_accessible l file [] t) (λ ok. refused l file [] (cond ok so_far (so_far ++ t ∷ [])) ts) (owner_asks file t (owner_scope l t)) (λ ok. refused_asks file (cond ok so_far (so_far ++ t ∷ [])) ts)

  reference_asks : (file : ℕ) (i : ImportTree) → AllAsked AsksForOwn (import_reference l file i)
  unfolding import_reference
  reference_asks file i =
      and_then-asked AsksForOwn (import_rule l i) (λ r. and_then (refused l file [] [] r.types) (λ ts. done (record { meaning = r.meaning; refused = ts }))) (name_asks (takes_packages i) (sought_ids i))
      (λ r. and_then-asked AsksForOwn (refused l file [] [] r.types) (λ ts. done (record { meaning = r.meaning; refused = ts })) (refused_asks file [] r.types) (λ ts. tt))

pub imports_ask_for_own : ImportsAskForOwn
imports_ask_for_own l names file u =
    and_then-asked AsksForOwn (each (import_reference l file) u.imports) (λ rs. done (imports_from l names file u.types no_imports u.imports rs)) (each-asked AsksForOwn (import_reference l file) u.imports (λ i c. reference_asks l file i)) (λ rs. tt)

-- The plan of a type checks its members and their bodies by the rules by which its declaration is checked.
use Rattle.std.proofs.Common.{◌≡◌, ℕ, ◌<◌, ◌↔◌, Bool, true, false, cond, List, [], ◌∷◌, ◌++◌, length, map, inl, inr, refl, sym, ap, ◌∙◌, subst, arith}
use Rattle.std.specs.List.{Contains, filter, flat_map}
use Rattle.std.proofs.lemmas.List.{append-nil}
use Rattle.sg_base.specs.declared.scope.Scope.{Scope}
use Rattle.sg_base.specs.Graph.{GraphOf}
use Rattle.sg_base.specs.Scope.{is_scope}
use Rattle.sg_base.proofs.Finite.{Contains-cons, nothing_in}
use Rattle.sg_base.proofs.Scopes.{same_scope, scope_same}
use Rattle.sg_query.specs.declared.answer.Answer.{Answer}
use Rattle.sg_query.specs.declared.query.Query.{Query}
use Rattle.sg_reading.specs.Reading.{Gives, done, ask, and_then, each}
use Rattle.sg_reading.proofs.Sequences.{and_then-and_then, and_then-done, gives_in_turn}
use Rattle.jv_diag.specs.Plain.{DiagOf}
use Rattle.jv_instance.specs.declared.datum.JavaDatum.{JavaDatum}
use Rattle.jv_instance.specs.declared.pred.JavaPred.{JavaPred}
use Rattle.jv_layout.specs.declared.place.Place.TheVariants.{Ty}
use Rattle.jv_layout.specs.Folder.{LayoutOf}
use Rattle.jv_layout.specs.Readers.{members_at, members_of, members_of_type}
use Rattle.jv_layout.specs.Scopes.{member_scope, type_scope}
use Rattle.jv_layout.proofs.SoundPlaces.{scopes_have_places}
use Rattle.jv_member.specs.Declaration.{joined}
use Rattle.jv_member.specs.Members.{Placed, check_by, declarations_of, member_calls, member_overrides, members_rule, placed}
use Rattle.jv_member.specs.Overriding.{all_groups, inherited_rule}
use Rattle.jv_member.specs.Own.{OwnMember, own_field, own_method, own_ctor, default_ctor, own_members}
use Rattle.jv_names.specs.declared.counts.Counts.TheVariants.{Methods}
use Rattle.jv_names.specs.declared.ends.Ends.{Ends}
use Rattle.jv_names.specs.declared.kinds.TheConstants.{METHODS}
use Rattle.jv_names.specs.Ends.{answer_ends}
use Rattle.jv_names.specs.Law.{InGraph}
use Rattle.jv_names.specs.Members.{find_ends}
use Rattle.jv_names.specs.Replies.{Rule, for_any}
use Rattle.jv_tree.specs.declared.name.Ident.{Ident}
use Rattle.jv_tree.specs.DeclTree.{TypeDeclTree, type_decl}
use Rattle.jv_unit.specs.Checks.{Check, overriding, meeting, calling}
use Rattle.jv_unit.specs.DeclaredBodies.{blanks_among, body_of, init_of, member_with, placed_members}
use Rattle.jv_unit.specs.Folder.{FolderOf, IsFolderOf}
use Rattle.jv_unit.specs.Law.{BodiesAreChecked, ComesTo, MembersAreChecked, declared_both, members_checked}
use Rattle.jv_unit.specs.MemberBodies.{is_blank, member_body, own_body, type_blanks}
use Rattle.jv_unit.specs.Owns.{own_at}
use Rattle.jv_unit.specs.Plans.{calling_rule, check_rule, declaration_part, meeting_rule, overriding_rule}
use Rattle.jv_unit.specs.Trees.{decl_at, extends_of, name_of}
use Rattle.jv_unit.proofs.Parts.{asked_before, each_map, in_parts}
use Rattle.jv_unit.proofs.Trees.{types_of_decls}
use Rattle.jv_unit.proofs.TypeOwns.{owns_are}

-- the rule of members by the parts of a declaration
by_parts : (l : LayoutOf) (names : List (List ℕ)) (c : Scope) (d : TypeDeclTree) → members_rule l names c d ≡ check_by l names c (name_of d) (extends_of d) (placed (members_of l c) (own_members d))
by_parts l names c (type_decl name ms i es is xs) = refl

-- scopes are of one member each
one_member : (l : LayoutOf) (m n : ℕ) → member_scope l m ≡ member_scope l n → m ≡ n
one_member l m n e = let k : (member_scope l m).serial ≡ (member_scope l n).serial = ap (λ (s : Scope). s.serial) e in omega (arith, k)

module _ (w : FolderOf) (t : ℕ) where
  abbrev l : LayoutOf
  l = w.layout

  abbrev c : Scope
  c = type_scope w.layout t

  abbrev ms : List ℕ
  ms = members_of_type w.layout t

  abbrev decl : TypeDeclTree
  decl = decl_at w.files t

  abbrev type : Ident
  type = name_of (decl_at w.files t)

  abbrev extends : List (List Ident)
  extends = extends_of (decl_at w.files t)

  -- the member with a number, with its scope
  abbrev pair : ℕ → Placed
  pair m = (member_scope w.layout m, own_at w.files m)

  -- ---- the members of the type by their numbers

  placed_map : (ns : List ℕ) → placed (map (member_scope w.layout) ns) (map (own_at w.files) ns) ≡ map pair ns
  placed_map [] = refl
  placed_map (n ∷ ns) = ap (λ (ps : List Placed). pair n ∷ ps) (placed_map ns)

  module _ (h : IsFolderOf w) (within : t < length w.layout.types) where
    scopes_are : members_of l c ≡ map (member_scope w.layout) ms
    scopes_are = ap (members_at l) ((scopes_have_places l c (Ty t)).1 (within, refl))

    members_are : own_members decl ≡ map (own_at w.files) ms
    members_are =
        owns_are w.names w.files t (omega (arith, within, types_of_decls w.files, ap (λ (x : LayoutOf). length x.types) h.layout))
        ∙ ap (λ (x : LayoutOf). map (own_at w.files) (members_of_type x t)) (sym h.layout)

    placed_are : placed (members_of l c) (own_members decl) ≡ map pair ms
    placed_are = (λ i. placed (scopes_are i) (members_are i)) ∙ placed_map ms

  -- ---- what is checked of the members together

  declarations_are : (ns : List ℕ) → declarations_of l w.names c type (map pair ns) ≡ flat_map (declaration_part w t) ns
  declarations_are [] = refl
  declarations_are (n ∷ ns) = ap (λ (ds : List DiagOf). declaration_part w t n ++ ds) (declarations_are ns)

  -- one kind of check after another
  abbrev in_turn : Rule (List DiagOf)
  in_turn =
      and_then (each (overriding_rule w t) ms) (λ overs. and_then (meeting_rule w t) (λ meets. and_then (each (calling_rule w t) ms) (λ calls.
      done ((flat_map (declaration_part w t) ms ++ joined overs) ++ (meets ++ joined calls)))))

  -- and so, where all methods of the type are asked for first
  abbrev behind : Ends → List (List DiagOf) → Rule (List DiagOf)
  behind ends overs =
      and_then (all_groups l w.names c type ends) (λ meets. and_then (each (calling_rule w t) ms) (λ calls.
      done ((flat_map (declaration_part w t) ms ++ joined overs) ++ (meets ++ joined calls))))

  abbrev methods_first : Rule (List DiagOf)
  methods_first = and_then (find_ends l Methods (for_any METHODS c)) (λ ends. and_then (each (overriding_rule w t) ms) (λ overs. behind ends overs))

  rule_is : IsFolderOf w → t < length w.layout.types → members_rule l w.names c decl ≡ methods_first
  rule_is h within =
      by_parts l w.names c decl
      ∙ (ap (check_by l w.names c type extends) (placed_are h within)
      ∙ (λ i.
      and_then (find_ends l Methods (for_any METHODS c)) (λ ends. and_then (each_map (member_overrides l w.names c type) pair ms i) (λ overs. and_then (all_groups l w.names c type ends) (λ meets. and_then (each_map (member_calls l w.names c extends) pair ms i) (λ calls.
      done ((declarations_are ms i ++ joined overs) ++ (meets ++ joined calls))))))))

  abbrev checked : Check → Rule (List DiagOf)
  checked k = check_rule w t (type_blanks w t) k

  checks_are : members_checked w t ≡ ask (for_any METHODS c) (λ a. in_turn)
  unfolding check_rule
  checks_are =
      let declared = flat_map (declaration_part w t) ms in
      let rest : List Check = map overriding ms ++ (meeting ∷ map calling ms) in
      (λ i. ask (for_any METHODS c) (λ a. and_then-and_then (each checked rest) (λ vs. done ([] ∷ vs)) (λ parts. done (declared ++ joined parts)) i))
      ∙ ((λ i. ask (for_any METHODS c) (λ a. in_parts checked declared (map overriding ms) (map calling ms) meeting i))
      ∙ (λ i. ask (for_any METHODS c) (λ a.
      and_then (each_map checked overriding ms i) (λ overs. and_then (meeting_rule w t) (λ meets. and_then (each_map checked calling ms i) (λ calls.
      done ((declared ++ joined overs) ++ (meets ++ joined calls))))))))

  module _ (g : GraphOf JavaDatum) where
    -- who reads the methods that meet was answered which there are
    meeting_asks : (ds : List DiagOf) (qs : List (Query JavaPred)) → Gives (InGraph g) (meeting_rule w t) ds qs → (a : Answer JavaDatum) × InGraph g (for_any METHODS c) a
    unfolding inherited_rule find_ends
    meeting_asks ds qs k = (k.0, k.1)

    in_turn_asks : (ds : List DiagOf) (qs : List (Query JavaPred)) → Gives (InGraph g) in_turn ds qs → (a : Answer JavaDatum) × InGraph g (for_any METHODS c) a
    in_turn_asks ds qs k =
        let first = (gives_in_turn (InGraph g) (each (overriding_rule w t) ms) _ ds qs).0 k in
        let second = (gives_in_turn (InGraph g) (meeting_rule w t) _ ds first.2).0 first.4 in
        meeting_asks second.0 second.1 second.3

    turns : (ds : List DiagOf) → (ComesTo g in_turn ds) ↔ (ComesTo g (members_checked w t) ds)
    turns ds = (
      (λ k.
          let asked = in_turn_asks ds k.0 k.1 in
          (for_any METHODS c ∷ k.0, subst (λ (r : Rule (List DiagOf)). Gives (InGraph g) r ds (for_any METHODS c ∷ k.0)) (sym checks_are) (asked.0, asked.1, k.0, refl, k.1))),
      (λ k. let asked : Gives (InGraph g) (ask (for_any METHODS c) (λ a. in_turn)) ds k.0 = subst (λ (r : Rule (List DiagOf)). Gives (InGraph g) r ds k.0) checks_are k.1 in (asked.2, asked.4)),
    )

    first_is : (ds : List DiagOf) → (ComesTo g methods_first ds) ↔ (ComesTo g in_turn ds)
    unfolding inherited_rule find_ends
    first_is ds = asked_before (InGraph g) (for_any METHODS c) (each (overriding_rule w t) ms) (λ a overs. behind (answer_ends l Methods a) overs) ds

    comes_to : (ds : List DiagOf) → members_rule l w.names c decl ≡ methods_first → (ComesTo g (members_rule l w.names c decl) ds) ↔ (ComesTo g (members_checked w t) ds)
    comes_to ds e = subst (λ (r : Rule (List DiagOf)). (ComesTo g r ds) ↔ (ComesTo g (members_checked w t) ds)) (sym e) ((λ k. (turns ds).0 ((first_is ds).0 k)), (λ k. (first_is ds).1 ((turns ds).1 k)))

  -- ---- what is checked of a body

  found : (m : ℕ) (ns : List ℕ) → Contains ns m → member_with (member_scope l m) (map pair ns) ≡ own_at w.files m
  found m [] k = absurd (nothing_in m k)
  found m (n ∷ ns) k =
      let there : OwnMember = member_with (member_scope l m) (map pair ns) in
      (elim (is_scope (member_scope l m) (member_scope l n)) as (λ (b : Bool). is_scope (member_scope l m) (member_scope l n) ≡ b → cond b (own_at w.files n) there ≡ own_at w.files m) [
        | true ↦ (λ e. ap (own_at w.files) (sym (one_member l m n (scope_same (member_scope l m) (member_scope l n) e))))
        | false ↦ (λ e. elim (Contains-cons n m ns k) [
          | inl is ↦ let same = same_scope (member_scope l m) (member_scope l n) (ap (member_scope l) is) in absurd (cc)
          | inr more ↦ found m ns more
        ])
      ]) refl

  blanks_are : (ns : List ℕ) → blanks_among l (map pair ns) ≡ map (member_scope l) (filter (λ m. is_blank l (member_scope l m) (own_at w.files m)) ns)
  blanks_are [] = refl
  blanks_are (n ∷ ns) =
      let of_pairs : List Placed = filter (λ p. is_blank l p.0 p.1) (map pair ns) in
      let of_numbers : List ℕ = filter (λ m. is_blank l (member_scope l m) (own_at w.files m)) ns in
      elim (is_blank l (member_scope l n) (own_at w.files n)) as (λ (b : Bool). map (λ p. p.0) (cond b (pair n ∷ of_pairs) of_pairs) ≡ map (member_scope l) (cond b (n ∷ of_numbers) of_numbers)) [
        | true ↦ ap (λ (ss : List Scope). member_scope l n ∷ ss) (blanks_are ns)
        | false ↦ blanks_are ns
      ]

  both_are : (blanks : List Scope) (s : Scope) (o : OwnMember)
      → own_body l w.names c extends blanks s o ≡ and_then (init_of l w.names c extends s o) (λ inits. and_then (body_of l w.names c extends blanks s o) (λ bodies. done (inits ++ bodies)))
  both_are blanks s (own_field fs x v) =
      let r : Rule (List DiagOf) = init_of l w.names c extends s (own_field fs x v) in
      sym ((λ i. and_then r (λ ds. done (append-nil ds i))) ∙ and_then-done r)
  both_are blanks s (own_method d) = sym (and_then-done (body_of l w.names c extends blanks s (own_method d)))
  both_are blanks s (own_ctor d) = sym (and_then-done (body_of l w.names c extends blanks s (own_ctor d)))
  both_are blanks s (default_ctor name) = refl

  body_is : (m : ℕ) → IsFolderOf w → t < length w.layout.types → Contains ms m → member_body w t (type_blanks w t) m ≡ declared_both w t m
  body_is m h within k =
      let is : map pair ms ≡ placed_members l c decl = sym (placed_are h within) in
      let own : own_at w.files m ≡ member_with (member_scope l m) (placed_members l c decl) = sym (found m ms k) ∙ ap (member_with (member_scope l m)) is in
      let blank : type_blanks w t ≡ blanks_among l (placed_members l c decl) = sym (blanks_are ms) ∙ ap (blanks_among l) is in
      (λ i. own_body l w.names c extends (blank i) (member_scope l m) (own i)) ∙ both_are (blanks_among l (placed_members l c decl)) (member_scope l m) (member_with (member_scope l m) (placed_members l c decl))

-- ---- as laws

pub members_are_checked : MembersAreChecked
members_are_checked w t g ds h within = comes_to w t g ds (rule_is w t h within)

pub bodies_are_checked : BodiesAreChecked
bodies_are_checked w t m h within k = body_is w t m h within k

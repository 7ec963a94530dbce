-- A reader that asks for one more terminal at the end was given what begins its part: members, classes and interfaces at each depth of
-- nesting, and files.
use Rattle.std.proofs.Common.{◌≡◌, ℕ, zero, suc, ◌&&◌, not, ◌⊎◌, inl, inr, Bool, true, false, cond, List, [], ◌∷◌, length, Result, refl, sym, ap, ◌∙◌, subst, Ok, Err}
use Rattle.jv_tree.specs.DeclTree.{MemberTree, UnitTree}
use Rattle.jv_grammar.specs.declared.terminal.Terminal.{Terminal}
use Rattle.jv_grammar.specs.declared.terminal.Terminal.TheVariants.{Keyword, Punct}
use Rattle.jv_grammar.specs.Marks.{brace_open, brace_close, semicolon, word_class, word_extends, word_implements, word_interface}
use Rattle.jv_grammar.specs.TypeGrammar.{is_mark, starts, starts_word}
use Rattle.jv_grammar.specs.DeclGrammar.{DerivesMods, DerivesParents, DerivesInterfaces}
use Rattle.jv_grammar.specs.Reader.{rest_of}
use Rattle.jv_grammar.specs.DeclReader.{ident_of, calls, mods_of, parent_of, headed_of, plain_of, ctor_of, BelowType, begins_type, behind_mods, member_of, members_of, braced_of, class_of, interface_of, decl_of, below_type, type_of, types_of, package_of, imports_of, file_of}
use Rattle.jv_grammar.specs.DeclBegins.{begun_parents_whole, begun_interfaces_whole, BeginsType, begun_type_class, begun_type_interface, BeginsClass, begun_class_none, begun_class_word, begun_class_parent, begun_class_interfaces, begun_class_members, BeginsInterface, begun_interface_word, begun_interface_parents, begun_interface_members, begun_members_none, begun_members_one, begun_members_more, begun_members_empty, begun_member_type, begun_imembers_none, begun_imembers_one, begun_imembers_more, begun_imembers_empty, begun_imember_type, BeginsTypes, begun_types_none, begun_types_one, begun_types_more, begun_types_empty, Begins, begun_file_package, begun_file_imports, begun_file_types, begun_file_whole}
use Rattle.jv_grammar.proofs.Ending.{Stops, Ends, all_of}
use Rattle.jv_grammar.proofs.StuckLaw.{IsStuck, BeginsMemberIn, BeginsMembersIn, StuckBelowType, StuckMember, StuckMembers, StuckClass, StuckInterface, TypesAreStuck, StuckType, StuckTypes, EndedFilesBegin}
use Rattle.jv_grammar.proofs.Read.{chosen, fails, starts_is}
use Rattle.jv_grammar.proofs.StmtSound.{starts_word_is}
use Rattle.jv_grammar.proofs.DeclSound.{IsMember, SoundType, ident_ok, derives_mods, derives_parent, derives_parents, derives_interfaces, s_member, sound_type, derives_type, derives_package, derives_imports, derives_file}
use Rattle.jv_grammar.proofs.Stuck.{err_is, ok_err, more_err, stops_then}
use Rattle.jv_grammar.proofs.DeclStuckParts.{ident_stop, stuck_parents, stuck_plain, stuck_ctor, stuck_package, stuck_imports}

-- what begins a member, and members, of a class or of an interface
type_member : (i : Bool) {ws : List Terminal} → BeginsType ws → BeginsMemberIn i ws
type_member true r = begun_imember_type r
type_member false r = begun_member_type r

members_none_begin : (i : Bool) → BeginsMembersIn i []
members_none_begin true = begun_imembers_none
members_none_begin false = begun_members_none

members_one_begin : (i : Bool) (xs : List Terminal) → BeginsMemberIn i xs → BeginsMembersIn i xs
members_one_begin true xs r = begun_imembers_one r
members_one_begin false xs r = begun_members_one r

members_more_begin : (i : Bool) (m : MemberTree) (xs zs : List Terminal) → IsMember i m xs zs → BeginsMembersIn i zs → BeginsMembersIn i xs
members_more_begin true m xs zs d r = begun_imembers_more d.0 r
members_more_begin false m xs zs d r = begun_members_more d.0 r

members_empty_begin : (i : Bool) (p : ℕ) (xs : List Terminal) → BeginsMembersIn i xs → BeginsMembersIn i (Punct p semicolon ∷ xs)
members_empty_begin true p xs r = begun_imembers_empty r
members_empty_begin false p xs r = begun_members_empty r

stuck_behind : (i : Bool) (n : ℕ) (nest : BelowType) → StuckBelowType nest → (ks : List ℕ) (ws xs : List Terminal) → DerivesMods ks ws xs → Stops (behind_mods i n nest ks xs) → BeginsMemberIn i ws
unfolding behind_mods
stuck_behind i n nest k ks ws xs m h = elim (chosen (begins_type xs) _ _ _ h) [
  | inl w ↦ type_member i (stops_then (nest ks xs) _ w.1 (k ks ws xs m) (λ y e k'. absurd (ok_err k')))
  | inr w ↦ by i w.1
]
  where
    by : (j : Bool) → Stops (cond (not j && calls xs) (ctor_of n ks xs) (plain_of j n ks xs)) → BeginsMemberIn j ws
    by true h' = stuck_plain true n ks ws xs m h'
    by false h' = elim (chosen (calls xs) _ _ _ h') [ inl v ↦ stuck_ctor n ks ws xs m v.1 | inr v ↦ stuck_plain false n ks ws xs m v.1 ]

pub stuck_member : StuckMember
unfolding member_of
stuck_member i n nest k xs h = stuck_behind i n nest k (mods_of xs).0 xs (mods_of xs).1 (derives_mods xs) h

-- what stands in front of the part that is stuck has to derive: the reader of what is nested is sound
module _ (n : ℕ) (nest : BelowType) (s : SoundType nest) (k : StuckBelowType nest) where
  pub stuck_members : (i : Bool) (c : ℕ) → IsStuck (members_of i n nest c) (BeginsMembersIn i)
  unfolding members_of
  stuck_members i zero xs h = subst (BeginsMembersIn i) (sym (err_is h)) (members_none_begin i)
  stuck_members i (suc c) xs h = elim (chosen (starts brace_close xs) _ _ _ h) [
    | inl w ↦ absurd (ok_err w.1)
    | inr w ↦ elim (chosen (starts semicolon xs) _ _ _ w.1) [
      | inl v ↦ (let m = starts_is semicolon xs v.0 in
          subst (BeginsMembersIn i) (sym m.1) (members_empty_begin i m.0 (rest_of xs) (stuck_members i c (rest_of xs) v.1)))
      | inr v ↦ stops_then (member_of i n nest xs) _ v.1 (λ q. members_one_begin i xs (stuck_member i n nest k xs q)) (λ x e h'.
          stops_then (members_of i n nest c x.1) _ h' (λ q. members_more_begin i x.0 xs x.1 (s_member n nest s i xs x e) (stuck_members i c x.1 q)) (λ y e' k'. absurd (ok_err k')))
    ]
  ]

  -- members in braces: in front of the `{`, or behind it
  stuck_braced : (i : Bool) (xs : List Terminal) → Stops (braced_of i n nest xs) → (xs ≡ []) ⊎ ((q : ℕ) × (xs ≡ Punct q brace_open ∷ rest_of xs) × BeginsMembersIn i (rest_of xs))
  unfolding braced_of
  stuck_braced i xs h = elim (chosen (starts brace_open xs) _ _ _ h) [
    | inl w ↦ (let m = starts_is brace_open xs w.0 in inr (m.0, m.1, stuck_members i (length xs) (rest_of xs) w.1))
    | inr w ↦ inl (err_is w.1)
  ]

  pub stuck_class : (ks : List ℕ) (p : ℕ) → IsStuck (class_of n nest ks) (λ xs. BeginsClass (Keyword p word_class ∷ xs))
  unfolding class_of
  stuck_class ks p xs h = stops_then (ident_of xs) _ h (λ q. subst (λ z. BeginsClass (Keyword p word_class ∷ z)) (sym (ident_stop xs q)) begun_class_word) (λ j e h1.
      subst (λ z. BeginsClass (Keyword p word_class ∷ z)) (sym (ident_ok xs j e))
      (stops_then (parent_of j.1) _ h1 (λ q. begun_class_parent (stuck_parents.0 j.1 q)) (λ a e1 h2.
      stops_then (headed_of word_implements a.1) _ h2 (λ q. begun_class_interfaces (derives_parent j.1 a e1) (stuck_parents.2 a.1 q)) (λ b e2 h3.
      let d = derives_interfaces a.1 b e2 in
      stops_then (braced_of false n nest b.1) _ h3
      (λ q. elim (stuck_braced false b.1 q) [
        | inl z ↦ begun_class_interfaces (derives_parent j.1 a e1) (begun_interfaces_whole (subst (DerivesInterfaces b.0 a.1) z d))
        | inr z ↦ begun_class_members (derives_parent j.1 a e1) (subst (DerivesInterfaces b.0 a.1) z.1 d) z.2
      ])
      (λ y e3 k'. absurd (ok_err k'))))))

  pub stuck_interface : (ks : List ℕ) (p : ℕ) → IsStuck (interface_of n nest ks) (λ xs. BeginsInterface (Keyword p word_interface ∷ xs))
  unfolding interface_of
  stuck_interface ks p xs h = stops_then (ident_of xs) _ h (λ q. subst (λ z. BeginsInterface (Keyword p word_interface ∷ z)) (sym (ident_stop xs q)) begun_interface_word) (λ j e h1.
      subst (λ z. BeginsInterface (Keyword p word_interface ∷ z)) (sym (ident_ok xs j e))
      (stops_then (headed_of word_extends j.1) _ h1 (λ q. begun_interface_parents (stuck_parents.1 j.1 q)) (λ a e1 h2.
      let d = derives_parents j.1 a e1 in
      stops_then (braced_of true n nest a.1) _ h2
      (λ q. elim (stuck_braced true a.1 q) [
        | inl z ↦ begun_interface_parents (begun_parents_whole (subst (DerivesParents a.0 j.1) z d))
        | inr z ↦ begun_interface_members (subst (DerivesParents a.0 j.1) z.1 d) z.2
      ])
      (λ y e2 k'. absurd (ok_err k')))))

  pub stuck_decl : StuckBelowType (decl_of n nest)
  unfolding decl_of
  stuck_decl ks ws xs m h = elim (chosen (starts_word word_class xs) _ _ _ h) [
    | inl w ↦ (let v = starts_word_is word_class xs w.0 in begun_type_class m (subst BeginsClass (sym v.1) (stuck_class ks v.0 (rest_of xs) w.1)))
    | inr w ↦ elim (chosen (starts_word word_interface xs) _ _ _ w.1) [
      | inl u ↦ (let v = starts_word_is word_interface xs u.0 in begun_type_interface m (subst BeginsInterface (sym v.1) (stuck_interface ks v.0 (rest_of xs) u.1)))
      | inr u ↦ begun_type_class (subst (DerivesMods ks ws) (err_is u.1) m) begun_class_none
    ]
  ]

-- at each depth of nesting
pub types_are_stuck : TypesAreStuck
unfolding below_type
types_are_stuck zero ks ws xs m h = begun_type_class (subst (DerivesMods ks ws) (err_is h) m) begun_class_none
types_are_stuck (suc n) ks ws xs m h = stuck_decl n (below_type n) (sound_type n) (types_are_stuck n) ks ws xs m h

-- so the members, the classes and the interfaces of each level are
pub members_are_stuck : StuckMembers
members_are_stuck i n m c = stuck_members n (below_type m) (sound_type m) (types_are_stuck m) i c

pub classes_are_stuck : StuckClass
classes_are_stuck n m ks p = stuck_class n (below_type m) (sound_type m) (types_are_stuck m) ks p

pub interfaces_are_stuck : StuckInterface
interfaces_are_stuck n m ks p = stuck_interface n (below_type m) (sound_type m) (types_are_stuck m) ks p

pub stuck_type : StuckType
unfolding type_of
stuck_type n xs h = stuck_decl n (below_type n) (sound_type n) (types_are_stuck n) (mods_of xs).0 xs (mods_of xs).1 (derives_mods xs) h

pub stuck_types : StuckTypes
unfolding types_of
stuck_types n c [] h = begun_types_none
stuck_types n zero (x ∷ xs) h = absurd (more_err h)
stuck_types n (suc c) (x ∷ xs) h = elim (chosen (is_mark semicolon x) _ _ _ h) [
  | inl w ↦ (let m = starts_is semicolon (x ∷ xs) w.0 in
      subst BeginsTypes (sym m.1) (begun_types_empty (stuck_types n c xs w.1)))
  | inr w ↦ stops_then (type_of n (x ∷ xs)) _ w.1 (λ q. begun_types_one (stuck_type n (x ∷ xs) q)) (λ r e h'.
      stops_then (types_of n c r.1) _ h' (λ q. begun_types_more (derives_type n (x ∷ xs) r e).0 (stuck_types n c r.1 q)) (λ y e' k. absurd (ok_err k)))
]

stuck_file : (n : ℕ) (xs : List Terminal) → file_of n xs ≡ fails [] → Begins xs
unfolding file_of
stuck_file n xs h = stops_then (package_of xs) _ h (λ q. begun_file_package (stuck_package xs q)) (λ p e h1.
    stops_then (imports_of (suc (length p.1)) p.1) _ h1 (λ q. begun_file_imports (derives_package xs p e) (stuck_imports (suc (length p.1)) p.1 q)) (λ i e1 h2.
    stops_then (types_of n (length i.1) i.1) _ h2
    (λ q. begun_file_types (derives_package xs p e) (derives_imports (suc (length p.1)) p.1 i e1) (stuck_types n (length i.1) i.1 q))
    (λ y e2 k. absurd (ok_err k))))

pub ended_files_begin : EndedFilesBegin
ended_files_begin n xs h = by (file_of n xs) refl h
  where
    by : (r : Result UnitTree (List Terminal)) → file_of n xs ≡ r → Ends (all_of r) → Begins xs
    by (Ok u) e end = begun_file_whole (derives_file n xs u e).0
    by (Err f) e end = stuck_file n xs (e ∙ ap (λ z. fails z) end)

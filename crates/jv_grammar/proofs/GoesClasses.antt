-- What begins a class or an interface is read to its end, at each depth of nesting.
use Rattle.std.proofs.Common.{◌≡◌, ℕ, zero, suc, ◌<◌, ◌≤◌, Bool, true, false, List, [], ◌∷◌, length, arith, refl, ap}
use Rattle.jv_tree.specs.DeclTree.{MemberTrees}
use Rattle.jv_grammar.specs.declared.terminal.Terminal.{Terminal}
use Rattle.jv_grammar.specs.declared.terminal.Terminal.TheVariants.{Ident}
use Rattle.jv_grammar.specs.Marks.{brace_close, semicolon, dot, word_extends, word_implements}
use Rattle.jv_grammar.specs.TypeGrammar.{starts, starts_word}
use Rattle.jv_grammar.specs.DeclGrammar.{interfaces_none, interfaces_some, class, interface, DerivesMembers, members_none, members_more, members_empty, DerivesImembers, imembers_none, imembers_more, imembers_empty}
use Rattle.jv_grammar.specs.DeclReader.{mods_of, parent_of, headed_of, BelowType, member_of, members_of, braced_of, class_of, interface_of, decl_of, below_type, type_of}
use Rattle.jv_grammar.specs.DeclBegins.{BeginsInterfaces, begun_interfaces_none, begun_interfaces_some, begun_interfaces_whole, BeginsClass, begun_class_none, begun_class_word, begun_class_parent, begun_class_interfaces, begun_class_members, begun_class_whole, BeginsInterface, begun_interface_none, begun_interface_word, begun_interface_parents, begun_interface_members, begun_interface_whole, begun_members_none, begun_members_one, begun_members_more, begun_members_empty, begun_members_whole, begun_imembers_none, begun_imembers_one, begun_imembers_more, begun_imembers_empty, begun_imembers_whole, begun_type_none, begun_type_class, begun_type_interface, begun_type_whole}
use Rattle.jv_grammar.proofs.BegunDepth.{begun_deep_class, begun_deep_interface}
use Rattle.jv_grammar.proofs.Rows.{HasShortRows}
use Rattle.jv_grammar.proofs.Ending.{left_of, Ends}
use Rattle.jv_grammar.proofs.GoesLaw.{GoesBelowType, GoesMembers, GoesImembers, GoesClass, GoesInterface, TypesGo, GoesType}
use Rattle.jv_grammar.proofs.DeclDepth.{deep_members, deep_imembers, less_member, less_imember}
use Rattle.jv_grammar.proofs.ClosedBrackets.{few_behind}
use Rattle.jv_grammar.proofs.DeclFew.{closed_mods, closed_parent, closed_parents, closed_interfaces, closed_member, closed_imember, few_members, few_member, few_imembers, few_imember, few_type}
use Rattle.jv_grammar.proofs.DeclStarts.{word_no_mark, interfaces_begin, member_word, imember_word}
use Rattle.jv_grammar.proofs.DeclComplete.{CompType, comp_type, reads_mods, reads_parent, reads_parents, reads_interfaces, c_member, c_imember, c_class, c_interface, reads_type}
use Rattle.jv_grammar.proofs.Goes.{ends_bind}
use Rattle.jv_grammar.proofs.BegunRows.{few_rows, rows_behind}
use Rattle.jv_grammar.proofs.BegunDeclStarts.{begun_no_mark, begun_class, begun_interface, begun_member, begun_imember}
use Rattle.jv_grammar.proofs.GoesHeadings.{goes_parents}
use Rattle.jv_grammar.proofs.GoesMembers.{member_none, goes_member, goes_imember}

-- behind what a class extends
interfaces_begun : {xs : List Terminal} → BeginsInterfaces xs → (starts_word word_extends xs ≡ false) × (starts dot xs ≡ false)
interfaces_begun begun_interfaces_none = (refl, refl)
interfaces_begun (begun_interfaces_some r) = (refl, refl)
interfaces_begun (begun_interfaces_whole interfaces_none) = (refl, refl)
interfaces_begun (begun_interfaces_whole (interfaces_some d)) = (refl, refl)

module _ (n : ℕ) (nest : BelowType) (c : CompType n nest) (t : GoesBelowType n nest) where
  members_stop : (i : Bool) (k : ℕ) → Ends (members_of i n nest k [])
  unfolding members_of
  members_stop i zero = refl
  members_stop i (suc k) = ends_bind (member_of i n nest []) _ (member_none n nest c t i) (λ x. ends_bind (members_of i n nest k []) _ (members_stop i k) (λ y. refl))

  -- members that derive, with no `}` behind them
  members_end : {ms : MemberTrees} {xs : List Terminal} (d : DerivesMembers ms xs []) (k : ℕ) → deep_members d ≤ n → HasShortRows xs → length xs < k → Ends (members_of false n nest k xs)
  unfolding members_of
  members_end d zero l h m = absurd (omega arith)
  members_end members_none (suc k) l h m = members_stop false (suc k)
  members_end (members_more {xs} {zs} d r) (suc k) l h m =
      rw (word_no_mark brace_close xs (member_word d), word_no_mark semicolon xs (member_word d))
      (rw (c_member n nest c d (omega arith) (few_member (few_rows xs h) d))
      (ends_bind (members_of false n nest k zs) _ (members_end r k (omega arith) (rows_behind (closed_member d) h) (omega (arith, less_member d))) (λ x. refl)))
  members_end (members_empty r) (suc k) l h m = members_end r k l h.1 (omega arith)

  pub goes_members : GoesMembers n nest
  unfolding members_of
  goes_members xs d zero l h m = absurd (omega arith)
  goes_members xs begun_members_none (suc k) l h m = members_stop false (suc k)
  goes_members xs (begun_members_one r) (suc k) l h m =
      rw (begun_no_mark brace_close xs (begun_member r), begun_no_mark semicolon xs (begun_member r))
      (ends_bind (member_of false n nest xs) _ (goes_member n nest c t xs r l h) (λ x. ends_bind (members_of false n nest k []) _ (members_stop false k) (λ y. refl)))
  goes_members xs (begun_members_more {zs} d r) (suc k) l h m =
      rw (word_no_mark brace_close xs (member_word d), word_no_mark semicolon xs (member_word d))
      (rw (c_member n nest c d (omega arith) (few_member (few_rows xs h) d))
      (ends_bind (members_of false n nest k zs) _ (goes_members zs r k (omega arith) (rows_behind (closed_member d) h) (omega (arith, less_member d))) (λ x. refl)))
  goes_members vs (begun_members_empty {xs} r) (suc k) l h m = goes_members xs r k l h.1 (omega arith)
  goes_members xs (begun_members_whole d) (suc k) l h m = members_end d (suc k) l h m

  imembers_end : {ms : MemberTrees} {xs : List Terminal} (d : DerivesImembers ms xs []) (k : ℕ) → deep_imembers d ≤ n → HasShortRows xs → length xs < k → Ends (members_of true n nest k xs)
  unfolding members_of
  imembers_end d zero l h m = absurd (omega arith)
  imembers_end imembers_none (suc k) l h m = members_stop true (suc k)
  imembers_end (imembers_more {xs} {zs} d r) (suc k) l h m =
      rw (word_no_mark brace_close xs (imember_word d), word_no_mark semicolon xs (imember_word d))
      (rw (c_imember n nest c d (omega arith) (few_imember (few_rows xs h) d))
      (ends_bind (members_of true n nest k zs) _ (imembers_end r k (omega arith) (rows_behind (closed_imember d) h) (omega (arith, less_imember d))) (λ x. refl)))
  imembers_end (imembers_empty r) (suc k) l h m = imembers_end r k l h.1 (omega arith)

  pub goes_imembers : GoesImembers n nest
  unfolding members_of
  goes_imembers xs d zero l h m = absurd (omega arith)
  goes_imembers xs begun_imembers_none (suc k) l h m = members_stop true (suc k)
  goes_imembers xs (begun_imembers_one r) (suc k) l h m =
      rw (begun_no_mark brace_close xs (begun_imember r), begun_no_mark semicolon xs (begun_imember r))
      (ends_bind (member_of true n nest xs) _ (goes_imember n nest c t xs r l h) (λ x. ends_bind (members_of true n nest k []) _ (members_stop true k) (λ y. refl)))
  goes_imembers xs (begun_imembers_more {zs} d r) (suc k) l h m =
      rw (word_no_mark brace_close xs (imember_word d), word_no_mark semicolon xs (imember_word d))
      (rw (c_imember n nest c d (omega arith) (few_imember (few_rows xs h) d))
      (ends_bind (members_of true n nest k zs) _ (goes_imembers zs r k (omega arith) (rows_behind (closed_imember d) h) (omega (arith, less_imember d))) (λ x. refl)))
  goes_imembers vs (begun_imembers_empty {xs} r) (suc k) l h m = goes_imembers xs r k l h.1 (omega arith)
  goes_imembers xs (begun_imembers_whole d) (suc k) l h m = imembers_end d (suc k) l h m

  pub goes_class : GoesClass n nest
  unfolding class_of braced_of decl_of
  goes_class p vs begun_class_word ks l h = refl
  goes_class p vs (begun_class_parent {xs} r) ks l h =
      ends_bind (parent_of xs) _ (goes_parents.0 xs r) (λ x. ends_bind (headed_of word_implements []) _ (goes_parents.2 [] begun_interfaces_none) (λ y. refl))
  goes_class p vs (begun_class_interfaces {zs} d r) ks l h =
      let s = interfaces_begun r in
      rw (reads_parent d s.0 s.1) (ends_bind (headed_of word_implements zs) _ (goes_parents.2 zs r) (λ y. refl))
  goes_class p vs (begun_class_members {ws} a b r) ks l h =
      let s = interfaces_begin b in
      rw (reads_parent a s.0 s.1) (rw (reads_interfaces b)
      (ends_bind (members_of false n nest (suc (length ws)) ws) _ (goes_members ws r (suc (length ws)) l (rows_behind (closed_interfaces b) (rows_behind (closed_parent a) h.1)).1 (omega arith)) (λ y. refl)))
  goes_class p vs (begun_class_whole (class {q} {r} a b d)) ks l h =
      ap left_of (c_class n nest c (class {ks = ks} {p = p} {q = q} {r = r} a b d) l (few_members (few_behind (closed_interfaces b) (few_behind (closed_parent a) (few_rows vs h).1)).1 d))

  pub goes_interface : GoesInterface n nest
  unfolding interface_of braced_of decl_of
  goes_interface p vs begun_interface_word ks l h = refl
  goes_interface p vs (begun_interface_parents {xs} r) ks l h = ends_bind (headed_of word_extends xs) _ (goes_parents.1 xs r) (λ y. refl)
  goes_interface p vs (begun_interface_members {zs} a r) ks l h =
      rw (reads_parents a)
      (ends_bind (members_of true n nest (suc (length zs)) zs) _ (goes_imembers zs r (suc (length zs)) l (rows_behind (closed_parents a) h.1).1 (omega arith)) (λ y. refl))
  goes_interface p vs (begun_interface_whole (interface {q} {r} a d)) ks l h =
      ap left_of (c_interface n nest c (interface {ks = ks} {p = p} {q = q} {r = r} a d) l (few_imembers (few_behind (closed_parents a) (few_rows vs h).1).1 d))

  -- behind modifiers, with the keyword
  pub decl_class : (xs : List Terminal) (d : BeginsClass xs) (ks : List ℕ) → begun_deep_class d ≤ n → HasShortRows xs → Ends (decl_of n nest ks xs)
  unfolding decl_of
  decl_class vs begun_class_none ks l h = refl
  decl_class vs (begun_class_word {p}) ks l h = goes_class p [] (begun_class_word {p = p}) ks l h.1
  decl_class vs (begun_class_parent {i} {p} {xs} r) ks l h = goes_class p (Ident i ∷ xs) (begun_class_parent r) ks l h.1
  decl_class vs (begun_class_interfaces {i} {p} {xs} d r) ks l h = goes_class p (Ident i ∷ xs) (begun_class_interfaces d r) ks l h.1
  decl_class vs (begun_class_members {i} {p} {xs} a b r) ks l h = goes_class p (Ident i ∷ xs) (begun_class_members a b r) ks l h.1
  decl_class vs (begun_class_whole {ks = os} (class {i} {p} {q} {r} {xs} a b d)) ks l h = goes_class p (Ident i ∷ xs) (begun_class_whole (class {ks = os} {p = p} {q = q} {r = r} a b d)) ks l h.1

  pub decl_interface : (xs : List Terminal) (d : BeginsInterface xs) (ks : List ℕ) → begun_deep_interface d ≤ n → HasShortRows xs → Ends (decl_of n nest ks xs)
  unfolding decl_of
  decl_interface vs begun_interface_none ks l h = refl
  decl_interface vs (begun_interface_word {p}) ks l h = goes_interface p [] (begun_interface_word {p = p}) ks l h.1
  decl_interface vs (begun_interface_parents {i} {p} {xs} r) ks l h = goes_interface p (Ident i ∷ xs) (begun_interface_parents r) ks l h.1
  decl_interface vs (begun_interface_members {i} {p} {xs} a r) ks l h = goes_interface p (Ident i ∷ xs) (begun_interface_members a r) ks l h.1
  decl_interface vs (begun_interface_whole {ks = os} (interface {i} {p} {q} {r} {xs} a d)) ks l h = goes_interface p (Ident i ∷ xs) (begun_interface_whole (interface {ks = os} {p = p} {q = q} {r = r} a d)) ks l h.1

-- at each depth of nesting
pub types_go : TypesGo
unfolding below_type decl_of
types_go zero = record {
  no_type = λ ks. refl;
  class = λ d ks l h. absurd (omega arith);
  interface = λ d ks l h. absurd (omega arith);
}
types_go (suc n) = record {
  no_type = λ ks. refl;
  class = λ d ks l h. decl_class n (below_type n) (comp_type n) (types_go n) _ d ks (omega arith) h;
  interface = λ d ks l h. decl_interface n (below_type n) (comp_type n) (types_go n) _ d ks (omega arith) h;
}

pub goes_type : GoesType
unfolding type_of mods_of
goes_type n xs begun_type_none l h = decl_class n (below_type n) (comp_type n) (types_go n) [] begun_class_none [] (omega arith) tt
goes_type n xs (begun_type_class {ks} {zs} m r) l h = rw (reads_mods m (begun_class r).0) (decl_class n (below_type n) (comp_type n) (types_go n) zs r ks l (rows_behind (closed_mods m) h))
goes_type n xs (begun_type_interface {ks} {zs} m r) l h = rw (reads_mods m (begun_interface r).0) (decl_interface n (below_type n) (comp_type n) (types_go n) zs r ks l (rows_behind (closed_mods m) h))
goes_type n xs (begun_type_whole d) l h = ap left_of (reads_type n d l (few_type (few_rows xs h) d))

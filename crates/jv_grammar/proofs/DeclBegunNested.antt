-- How deep begun declarations and files nest: no deeper than the load leaves room for.
use Rattle.std.proofs.Common.{ℕ, suc, List, Option, refl, arith}
use Rattle.jv_grammar.specs.declared.terminal.Terminal.{Terminal}
use Rattle.jv_grammar.specs.DeclBegins.{BeginsBody, begun_body_none, begun_body_block, begun_body_whole, BeginsCtor, begun_ctor_none, begun_ctor_plain, begun_ctor_args, begun_ctor_super, begun_ctor_whole, BeginsConstants, begun_constants_none, begun_constants_name, begun_constants_one, begun_constants_more, begun_constants_whole, BeginsType, begun_type_none, begun_type_class, begun_type_interface, begun_type_whole, BeginsClass, begun_class_none, begun_class_word, begun_class_parent, begun_class_interfaces, begun_class_members, begun_class_whole, BeginsInterface, begun_interface_none, begun_interface_word, begun_interface_parents, begun_interface_members, begun_interface_whole, BeginsMembers, begun_members_none, begun_members_one, begun_members_more, begun_members_empty, begun_members_whole, BeginsMember, begun_member_none, begun_member_type, begun_member_result, begun_member_vars, begun_member_params, begun_member_body, begun_member_ctor_params, begun_member_ctor, begun_member_whole, BeginsImembers, begun_imembers_none, begun_imembers_one, begun_imembers_more, begun_imembers_empty, begun_imembers_whole, BeginsImember, begun_imember_none, begun_imember_type, begun_imember_result, begun_imember_constants, begun_imember_params, begun_imember_body, begun_imember_whole, BeginsTypes, begun_types_none, begun_types_one, begun_types_more, begun_types_empty, begun_types_whole, Begins, begun_file_none, begun_file_package, begun_file_imports, begun_file_types, begun_file_whole}
use Rattle.jv_grammar.proofs.BegunDepth.{begun_deep_body, begun_deep_ctor, begun_deep_constants, begun_deep_type, begun_deep_class, begun_deep_interface, begun_deep_members, begun_deep_member, begun_deep_imembers, begun_deep_imember, begun_deep_types, begun_deep_file}
use Rattle.jv_grammar.proofs.Stretches.{part}
use Rattle.jv_grammar.proofs.BegunStretches.{BegunParts, begun_here, begun_eased_parts, begun_whole_parts, begun_brace, begun_part, begun_parts, begun_loose}
use Rattle.jv_grammar.proofs.Nested.{nests_args, parts_init}
use Rattle.jv_grammar.proofs.DeclNested.{parts_ty, parts_result, parts_mods, parts_params, parts_body, parts_ctor, parts_constants, parts_parent, parts_parents, parts_interfaces, parts_type, parts_class, parts_interface, parts_members, parts_member, parts_imembers, parts_imember, parts_package, parts_imports, parts_types, parts_file}
use Rattle.jv_grammar.proofs.BegunNested.{nests_begun_args, parts_begun_init}
use Rattle.jv_grammar.proofs.StmtBegunNested.{parts_begun_vars, nests_begun_block, parts_begun_bstmts}

parts_begun_body : {most : ℕ} {b : Option Terminal} {xs : List Terminal} (d : BeginsBody xs) → BegunParts most b (suc (begun_deep_body d)) xs
parts_begun_body begun_body_none = begun_part begun_here
parts_begun_body (begun_body_block r) = begun_part (nests_begun_block r)
parts_begun_body (begun_body_whole d) = begun_whole_parts (parts_body d)

parts_begun_ctor : {most : ℕ} {b : Option Terminal} {xs : List Terminal} (d : BeginsCtor xs) → BegunParts most b (suc (begun_deep_ctor d)) xs
parts_begun_ctor begun_ctor_none = begun_part begun_here
parts_begun_ctor (begun_ctor_plain r) = begun_eased_parts (begun_part (begun_brace (parts_begun_bstmts refl r))) (omega arith)
parts_begun_ctor (begun_ctor_args r) = begun_eased_parts (begun_part (begun_brace (begun_loose refl (begun_part (nests_begun_args r))))) (omega arith)
parts_begun_ctor (begun_ctor_super a r) = begun_eased_parts (begun_part (begun_brace (begun_loose refl (begun_parts (part (nests_args a)) (λ c. begun_loose refl (parts_begun_bstmts refl r)))))) (omega arith)
parts_begun_ctor (begun_ctor_whole d) = begun_whole_parts (parts_ctor d)

parts_begun_constants : {most : ℕ} {b : Option Terminal} {xs : List Terminal} (d : BeginsConstants xs) → BegunParts most b (suc (begun_deep_constants d)) xs
parts_begun_constants begun_constants_none = begun_part begun_here
parts_begun_constants begun_constants_name = begun_part begun_here
parts_begun_constants (begun_constants_one r) = begun_loose refl (begun_loose refl (parts_begun_init refl r))
parts_begun_constants (begun_constants_more d r) = begun_eased_parts (begun_loose refl (begun_loose refl (begun_parts (parts_init refl d) (λ c. begun_loose refl (parts_begun_constants r))))) (omega arith)
parts_begun_constants (begun_constants_whole d) = begun_whole_parts (parts_constants d)

-- a begun type may have no braces yet: so the base leaves room for one level more than it has, and for as many as begun members have
mutual
  parts_begun_type : {most : ℕ} {b : Option Terminal} {xs : List Terminal} (d : BeginsType xs) → BegunParts most b (suc (begun_deep_type d)) xs
  parts_begun_type begun_type_none = begun_part begun_here
  parts_begun_type (begun_type_class m r) = begun_eased_parts (begun_parts (parts_mods m) (λ c. parts_begun_class r)) (omega arith)
  parts_begun_type (begun_type_interface m r) = begun_eased_parts (begun_parts (parts_mods m) (λ c. parts_begun_interface r)) (omega arith)
  parts_begun_type (begun_type_whole d) = begun_eased_parts (begun_whole_parts (parts_type d)) (omega arith)

  parts_begun_class : {most : ℕ} {b : Option Terminal} {xs : List Terminal} (d : BeginsClass xs) → BegunParts most b (suc (begun_deep_class d)) xs
  parts_begun_class begun_class_none = begun_part begun_here
  parts_begun_class begun_class_word = begun_part begun_here
  parts_begun_class (begun_class_parent r) = begun_part begun_here
  parts_begun_class (begun_class_interfaces d r) = begun_part begun_here
  parts_begun_class (begun_class_members p i r) =
      begun_loose refl (begun_loose refl (begun_eased_parts (begun_parts (parts_parent p) (λ c. begun_parts (parts_interfaces i) (λ c. begun_part (begun_brace (parts_begun_members r))))) (omega arith)))
  parts_begun_class (begun_class_whole d) = begun_eased_parts (begun_whole_parts (parts_class d)) (omega arith)

  parts_begun_interface : {most : ℕ} {b : Option Terminal} {xs : List Terminal} (d : BeginsInterface xs) → BegunParts most b (suc (begun_deep_interface d)) xs
  parts_begun_interface begun_interface_none = begun_part begun_here
  parts_begun_interface begun_interface_word = begun_part begun_here
  parts_begun_interface (begun_interface_parents r) = begun_part begun_here
  parts_begun_interface (begun_interface_members p r) = begun_loose refl (begun_loose refl (begun_eased_parts (begun_parts (parts_parents p) (λ c. begun_part (begun_brace (parts_begun_imembers r)))) (omega arith)))
  parts_begun_interface (begun_interface_whole d) = begun_eased_parts (begun_whole_parts (parts_interface d)) (omega arith)

  parts_begun_members : {most : ℕ} {b : Option Terminal} {xs : List Terminal} (d : BeginsMembers xs) → BegunParts most b (begun_deep_members d) xs
  parts_begun_members begun_members_none = begun_eased_parts (begun_part begun_here) (omega arith)
  parts_begun_members (begun_members_one r) = parts_begun_member r
  parts_begun_members (begun_members_more d r) = begun_eased_parts (begun_parts (parts_member d) (λ c. parts_begun_members r)) (omega arith)
  parts_begun_members (begun_members_empty r) = begun_loose refl (parts_begun_members r)
  parts_begun_members (begun_members_whole d) = begun_eased_parts (begun_whole_parts (parts_members d)) (omega arith)

  parts_begun_member : {most : ℕ} {b : Option Terminal} {xs : List Terminal} (d : BeginsMember xs) → BegunParts most b (begun_deep_member d) xs
  parts_begun_member begun_member_none = begun_eased_parts (begun_part begun_here) (omega arith)
  parts_begun_member (begun_member_type r) = parts_begun_type r
  parts_begun_member (begun_member_result m r) = begun_eased_parts (begun_part begun_here) (omega arith)
  parts_begun_member (begun_member_vars m d r) = begun_eased_parts (begun_parts (parts_mods m) (λ c. begun_parts (parts_ty d) (λ c. parts_begun_vars r))) (omega arith)
  parts_begun_member (begun_member_params m d r) = begun_eased_parts (begun_part begun_here) (omega arith)
  parts_begun_member (begun_member_body m d q r) =
      begun_eased_parts (begun_parts (parts_mods m) (λ c. begun_parts (parts_result d) (λ c. begun_loose refl (begun_parts (parts_params q) (λ c. parts_begun_body r))))) (omega arith)
  parts_begun_member (begun_member_ctor_params m r) = begun_eased_parts (begun_part begun_here) (omega arith)
  parts_begun_member (begun_member_ctor m q r) = begun_eased_parts (begun_parts (parts_mods m) (λ c. begun_loose refl (begun_parts (parts_params q) (λ c. parts_begun_ctor r)))) (omega arith)
  parts_begun_member (begun_member_whole d) = begun_eased_parts (begun_whole_parts (parts_member d)) (omega arith)

  parts_begun_imembers : {most : ℕ} {b : Option Terminal} {xs : List Terminal} (d : BeginsImembers xs) → BegunParts most b (begun_deep_imembers d) xs
  parts_begun_imembers begun_imembers_none = begun_eased_parts (begun_part begun_here) (omega arith)
  parts_begun_imembers (begun_imembers_one r) = parts_begun_imember r
  parts_begun_imembers (begun_imembers_more d r) = begun_eased_parts (begun_parts (parts_imember d) (λ c. parts_begun_imembers r)) (omega arith)
  parts_begun_imembers (begun_imembers_empty r) = begun_loose refl (parts_begun_imembers r)
  parts_begun_imembers (begun_imembers_whole d) = begun_eased_parts (begun_whole_parts (parts_imembers d)) (omega arith)

  parts_begun_imember : {most : ℕ} {b : Option Terminal} {xs : List Terminal} (d : BeginsImember xs) → BegunParts most b (begun_deep_imember d) xs
  parts_begun_imember begun_imember_none = begun_eased_parts (begun_part begun_here) (omega arith)
  parts_begun_imember (begun_imember_type r) = parts_begun_type r
  parts_begun_imember (begun_imember_result m r) = begun_eased_parts (begun_part begun_here) (omega arith)
  parts_begun_imember (begun_imember_constants m d r) = begun_eased_parts (begun_parts (parts_mods m) (λ c. begun_parts (parts_ty d) (λ c. parts_begun_constants r))) (omega arith)
  parts_begun_imember (begun_imember_params m d r) = begun_eased_parts (begun_part begun_here) (omega arith)
  parts_begun_imember (begun_imember_body m d q r) =
      begun_eased_parts (begun_parts (parts_mods m) (λ c. begun_parts (parts_result d) (λ c. begun_loose refl (begun_parts (parts_params q) (λ c. parts_begun_body r))))) (omega arith)
  parts_begun_imember (begun_imember_whole d) = begun_eased_parts (begun_whole_parts (parts_imember d)) (omega arith)

parts_begun_types : {most : ℕ} {b : Option Terminal} {xs : List Terminal} (d : BeginsTypes xs) → BegunParts most b (suc (begun_deep_types d)) xs
parts_begun_types begun_types_none = begun_part begun_here
parts_begun_types (begun_types_one r) = parts_begun_type r
parts_begun_types (begun_types_more d r) = begun_eased_parts (begun_parts (parts_type d) (λ c. parts_begun_types r)) (omega arith)
parts_begun_types (begun_types_empty r) = begun_loose refl (parts_begun_types r)
parts_begun_types (begun_types_whole d) = begun_whole_parts (parts_types d)

pub parts_begun_file : {most : ℕ} {b : Option Terminal} {xs : List Terminal} (d : Begins xs) → BegunParts most b (suc (begun_deep_file d)) xs
parts_begun_file begun_file_none = begun_part begun_here
parts_begun_file (begun_file_package r) = begun_part begun_here
parts_begun_file (begun_file_imports d r) = begun_part begun_here
parts_begun_file (begun_file_types p i r) = begun_eased_parts (begun_parts (parts_package p) (λ c. begun_parts (parts_imports i) (λ c. parts_begun_types r))) (omega arith)
parts_begun_file (begun_file_whole d) = begun_whole_parts (parts_file d)

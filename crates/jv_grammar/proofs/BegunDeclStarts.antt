-- What begun declarations begin with.
use Rattle.std.proofs.Common.{◌≡◌, ℕ, Bool, true, false, nat_eq, List, [], ◌∷◌, refl}
use Rattle.jv_tree.specs.TypeTree.{TypeTree}
use Rattle.jv_tree.specs.DeclTree.{ParamTree}
use Rattle.jv_grammar.specs.declared.terminal.Terminal.{Terminal}
use Rattle.jv_grammar.specs.Marks.{word_class, word_final, word_import, word_interface, word_package, modifiers}
use Rattle.jv_grammar.specs.TypeGrammar.{starts, starts_word, name_one, name_more, pairs_none, DerivesTy, ty}
use Rattle.jv_grammar.specs.StmtGrammar.{var_alone, var_init}
use Rattle.jv_grammar.specs.DeclGrammar.{DerivesMods, mods_none, mods_more, DerivesParam, param_plain, param_final, some_params_one, some_params_more, class, interface}
use Rattle.jv_grammar.specs.DeclReader.{calls, begins_type, typed_of, plain_of}
use Rattle.jv_grammar.specs.TypeBegins.{BeginsName, begun_name_none, begun_name_more, begun_name_whole, begun_base_none, begun_base_name, begun_base_whole, BeginsTy, begun_ty_none, begun_ty_base, begun_ty_pairs, begun_ty_whole, BeginsResult, begun_result_none, begun_result_ty, begun_result_whole}
use Rattle.jv_grammar.specs.StmtBegins.{BeginsVar, begun_var_none, begun_var_init, begun_var_whole, BeginsVars, begun_vars_none, begun_vars_one, begun_vars_more, begun_vars_whole}
use Rattle.jv_grammar.specs.DeclBegins.{BeginsParam, begun_param_none, begun_param_ty, begun_param_final, begun_param_whole, BeginsSomeParams, begun_some_params_none, begun_some_params_one, begun_some_params_more, begun_some_params_whole, BeginsConstants, begun_constants_none, begun_constants_name, begun_constants_one, begun_constants_more, begun_constants_whole, BeginsType, begun_type_none, begun_type_class, begun_type_interface, begun_type_whole, BeginsClass, begun_class_none, begun_class_word, begun_class_parent, begun_class_interfaces, begun_class_members, begun_class_whole, BeginsInterface, begun_interface_none, begun_interface_word, begun_interface_parents, begun_interface_members, begun_interface_whole, BeginsMember, begun_member_none, begun_member_type, begun_member_result, begun_member_vars, begun_member_params, begun_member_body, begun_member_ctor_params, begun_member_ctor, begun_member_whole, BeginsImember, begun_imember_none, begun_imember_type, begun_imember_result, begun_imember_constants, begun_imember_params, begun_imember_body, begun_imember_whole, BeginsTypes, begun_types_none, begun_types_one, begun_types_more, begun_types_empty, begun_types_whole}
use Rattle.jv_grammar.proofs.Read.{Each}
use Rattle.jv_grammar.proofs.DeclStarts.{starts_mod, begins_word, word_no_mark, ident_no_mark, mods_word, mods_no_word, ty_begins, ty_no_final, ty_calls, ty_plain, result_begins, vars_begin, constants_begin, type_word, member_word, imember_word, type_no_word}
use Rattle.jv_grammar.proofs.DeclComplete.{types_no_word}
use Rattle.jv_grammar.proofs.GoesHeads.{pairs_no_paren}
use Rattle.jv_grammar.proofs.BegunStmtStarts.{IsBegunIdent, ident_is_begun}

-- the first terminal is a word, if there is one; it begins a class or an interface, if there is one
abbrev pub IsBegunWord : List Terminal → Type 0
IsBegunWord [] = Unit {0}
IsBegunWord (x ∷ xs) = begins_word (x ∷ xs) ≡ true

abbrev pub IsBegunDecl : List Terminal → Type 0
IsBegunDecl [] = Unit {0}
IsBegunDecl (x ∷ xs) = begins_type (x ∷ xs) ≡ true

word_is : (xs : List Terminal) → begins_word xs ≡ true → IsBegunWord xs
word_is [] h = tt
word_is (x ∷ xs) h = h

pub begun_no_mark : (n : ℕ) (xs : List Terminal) → IsBegunWord xs → starts n xs ≡ false
begun_no_mark n [] h = refl
begun_no_mark n (x ∷ xs) h = word_no_mark n (x ∷ xs) h

pub begun_ident_no_mark : (n : ℕ) (xs : List Terminal) → IsBegunIdent xs → starts n xs ≡ false
begun_ident_no_mark n [] h = refl
begun_ident_no_mark n (x ∷ xs) h = ident_no_mark n (x ∷ xs) h

mods_begun : {ks : List ℕ} {xs ys : List Terminal} → DerivesMods ks xs ys → IsBegunWord ys → IsBegunWord xs
mods_begun mods_none h = h
mods_begun (mods_more m d) h = refl

-- what a begun type begins with
pub record TyStart (xs : List Terminal) : Type 0 where
  pub no_mod : starts_mod xs ≡ false
  pub no_type : begins_type xs ≡ false
  pub word : IsBegunWord xs
  pub no_final : starts_word word_final xs ≡ false

no_start : TyStart []
no_start = record { no_mod = refl; no_type = refl; word = tt; no_final = refl }

name_start : {xs : List Terminal} → BeginsName xs → TyStart xs
name_start begun_name_none = no_start
name_start (begun_name_more r) = record { no_mod = refl; no_type = refl; word = refl; no_final = refl }
name_start (begun_name_whole name_one) = record { no_mod = refl; no_type = refl; word = refl; no_final = refl }
name_start (begun_name_whole (name_more d)) = record { no_mod = refl; no_type = refl; word = refl; no_final = refl }

ty_start : {r : TypeTree} {xs ys : List Terminal} → DerivesTy r xs ys → TyStart xs
ty_start {xs} d = let b = ty_begins d in record { no_mod = b.0; no_type = b.1; word = word_is xs b.2; no_final = ty_no_final d }

pub begun_ty : {xs : List Terminal} → BeginsTy xs → TyStart xs
begun_ty begun_ty_none = no_start
begun_ty (begun_ty_base begun_base_none) = no_start
begun_ty (begun_ty_base (begun_base_name r)) = name_start r
begun_ty (begun_ty_base (begun_base_whole d)) = ty_start (ty d pairs_none)
begun_ty (begun_ty_pairs d r) = ty_start (ty d pairs_none)
begun_ty (begun_ty_whole d) = ty_start d

name_calls : {xs : List Terminal} → BeginsName xs → calls xs ≡ false
name_calls begun_name_none = refl
name_calls (begun_name_more r) = refl
name_calls (begun_name_whole name_one) = refl
name_calls (begun_name_whole (name_more d)) = refl

pub begun_ty_calls : {xs : List Terminal} → BeginsTy xs → calls xs ≡ false
begun_ty_calls begun_ty_none = refl
begun_ty_calls (begun_ty_base begun_base_none) = refl
begun_ty_calls (begun_ty_base (begun_base_name r)) = name_calls r
begun_ty_calls (begun_ty_base (begun_base_whole d)) = ty_calls (ty d pairs_none) refl
begun_ty_calls (begun_ty_pairs d r) = ty_calls (ty d pairs_none) (pairs_no_paren r)
begun_ty_calls (begun_ty_whole d) = ty_calls d refl

name_plain : (i : Bool) (n : ℕ) (ks : List ℕ) {xs : List Terminal} → BeginsName xs → plain_of i n ks xs ≡ typed_of i n ks xs
unfolding plain_of
name_plain i n ks begun_name_none = refl
name_plain i n ks (begun_name_more r) = refl
name_plain i n ks (begun_name_whole name_one) = refl
name_plain i n ks (begun_name_whole (name_more d)) = refl

pub begun_ty_plain : (i : Bool) (n : ℕ) (ks : List ℕ) {xs : List Terminal} → BeginsTy xs → plain_of i n ks xs ≡ typed_of i n ks xs
begun_ty_plain i n ks begun_ty_none = name_plain i n ks begun_name_none
begun_ty_plain i n ks (begun_ty_base begun_base_none) = name_plain i n ks begun_name_none
begun_ty_plain i n ks (begun_ty_base (begun_base_name r)) = name_plain i n ks r
begun_ty_plain i n ks (begun_ty_base (begun_base_whole d)) = ty_plain i n ks (ty d pairs_none)
begun_ty_plain i n ks (begun_ty_pairs d r) = ty_plain i n ks (ty d pairs_none)
begun_ty_plain i n ks (begun_ty_whole d) = ty_plain i n ks d

-- what a begun result begins with
result_word : {xs : List Terminal} → BeginsResult xs → IsBegunWord xs
result_word begun_result_none = tt
result_word (begun_result_ty r) = (begun_ty r).word
result_word (begun_result_whole {xs} d) = word_is xs (result_begins d).2

-- parameters begin with no `)`
param_word : {a : ParamTree} {xs ys : List Terminal} → DerivesParam a xs ys → begins_word xs ≡ true
param_word (param_plain d) = (ty_begins d).2
param_word (param_final d) = refl

begun_param : {xs : List Terminal} → BeginsParam xs → IsBegunWord xs
begun_param begun_param_none = tt
begun_param (begun_param_ty r) = (begun_ty r).word
begun_param (begun_param_final r) = refl
begun_param (begun_param_whole {xs} d) = word_is xs (param_word d)

pub begun_some_params : {xs : List Terminal} → BeginsSomeParams xs → IsBegunWord xs
begun_some_params begun_some_params_none = tt
begun_some_params (begun_some_params_one r) = begun_param r
begun_some_params (begun_some_params_more {xs} d r) = word_is xs (param_word d)
begun_some_params (begun_some_params_whole {xs} (some_params_one d)) = word_is xs (param_word d)
begun_some_params (begun_some_params_whole {xs} (some_params_more d r)) = word_is xs (param_word d)

-- variables begin with an identifier, which has no `(` behind it
var_calls : {xs : List Terminal} → BeginsVar xs → calls xs ≡ false
var_calls begun_var_none = refl
var_calls (begun_var_init r) = refl
var_calls (begun_var_whole var_alone) = refl
var_calls (begun_var_whole (var_init d)) = refl

pub begun_vars_calls : {xs : List Terminal} → BeginsVars xs → calls xs ≡ false
begun_vars_calls begun_vars_none = refl
begun_vars_calls (begun_vars_one r) = var_calls r
begun_vars_calls (begun_vars_more var_alone r) = refl
begun_vars_calls (begun_vars_more (var_init d) r) = refl
begun_vars_calls (begun_vars_whole d) = (vars_begin d refl).1

pub begun_constants : {xs : List Terminal} → BeginsConstants xs → IsBegunIdent xs × (calls xs ≡ false)
begun_constants begun_constants_none = (tt, refl)
begun_constants begun_constants_name = (refl, refl)
begun_constants (begun_constants_one r) = (refl, refl)
begun_constants (begun_constants_more d r) = (refl, refl)
begun_constants (begun_constants_whole {xs} d) = let b = constants_begin d in (ident_is_begun xs b.0, b.1)

-- types and members begin with words
pub begun_class : {xs : List Terminal} → BeginsClass xs → (starts_mod xs ≡ false) × IsBegunDecl xs × IsBegunWord xs
begun_class begun_class_none = (refl, tt, tt)
begun_class begun_class_word = (refl, refl, refl)
begun_class (begun_class_parent r) = (refl, refl, refl)
begun_class (begun_class_interfaces d r) = (refl, refl, refl)
begun_class (begun_class_members a b r) = (refl, refl, refl)
begun_class (begun_class_whole (class a b d)) = (refl, refl, refl)

pub begun_interface : {xs : List Terminal} → BeginsInterface xs → (starts_mod xs ≡ false) × IsBegunDecl xs × IsBegunWord xs
begun_interface begun_interface_none = (refl, tt, tt)
begun_interface begun_interface_word = (refl, refl, refl)
begun_interface (begun_interface_parents r) = (refl, refl, refl)
begun_interface (begun_interface_members a r) = (refl, refl, refl)
begun_interface (begun_interface_whole (interface a d)) = (refl, refl, refl)

pub begun_type : {xs : List Terminal} → BeginsType xs → IsBegunWord xs
begun_type begun_type_none = tt
begun_type (begun_type_class m r) = mods_begun m (begun_class r).2
begun_type (begun_type_interface m r) = mods_begun m (begun_interface r).2
begun_type (begun_type_whole {xs} d) = word_is xs (type_word d)

pub begun_member : {xs : List Terminal} → BeginsMember xs → IsBegunWord xs
begun_member begun_member_none = tt
begun_member (begun_member_type r) = begun_type r
begun_member (begun_member_result m r) = mods_begun m (result_word r)
begun_member (begun_member_vars {xs} m d r) = word_is xs (mods_word m (ty_begins d).2)
begun_member (begun_member_params {xs} m d r) = word_is xs (mods_word m (result_begins d).2)
begun_member (begun_member_body {xs} m d q r) = word_is xs (mods_word m (result_begins d).2)
begun_member (begun_member_ctor_params {xs} m r) = word_is xs (mods_word m refl)
begun_member (begun_member_ctor {xs} m q r) = word_is xs (mods_word m refl)
begun_member (begun_member_whole {xs} d) = word_is xs (member_word d)

pub begun_imember : {xs : List Terminal} → BeginsImember xs → IsBegunWord xs
begun_imember begun_imember_none = tt
begun_imember (begun_imember_type r) = begun_type r
begun_imember (begun_imember_result m r) = mods_begun m (result_word r)
begun_imember (begun_imember_constants {xs} m d r) = word_is xs (mods_word m (ty_begins d).2)
begun_imember (begun_imember_params {xs} m d r) = word_is xs (mods_word m (result_begins d).2)
begun_imember (begun_imember_body {xs} m d q r) = word_is xs (mods_word m (result_begins d).2)
begun_imember (begun_imember_whole {xs} d) = word_is xs (imember_word d)

-- types begin with no `package` and no `import`
class_no_word : (w : ℕ) → nat_eq word_class w ≡ false → {xs : List Terminal} → BeginsClass xs → starts_word w xs ≡ false
class_no_word w h begun_class_none = refl
class_no_word w h begun_class_word = h
class_no_word w h (begun_class_parent r) = h
class_no_word w h (begun_class_interfaces d r) = h
class_no_word w h (begun_class_members a b r) = h
class_no_word w h (begun_class_whole (class a b d)) = h

interface_no_word : (w : ℕ) → nat_eq word_interface w ≡ false → {xs : List Terminal} → BeginsInterface xs → starts_word w xs ≡ false
interface_no_word w h begun_interface_none = refl
interface_no_word w h begun_interface_word = h
interface_no_word w h (begun_interface_parents r) = h
interface_no_word w h (begun_interface_members a r) = h
interface_no_word w h (begun_interface_whole (interface a d)) = h

begun_type_no_word : (w : ℕ) → Each (λ k. nat_eq k w ≡ false) modifiers → nat_eq word_class w ≡ false → nat_eq word_interface w ≡ false → {xs : List Terminal} → BeginsType xs → starts_word w xs ≡ false
begun_type_no_word w e h h' begun_type_none = refl
begun_type_no_word w e h h' (begun_type_class m r) = mods_no_word w e m (class_no_word w h r)
begun_type_no_word w e h h' (begun_type_interface m r) = mods_no_word w e m (interface_no_word w h' r)
begun_type_no_word w e h h' (begun_type_whole d) = type_no_word w e h h' d

pub begun_types_no_word : {xs : List Terminal} → BeginsTypes xs → (starts_word word_package xs ≡ false) × (starts_word word_import xs ≡ false)
begun_types_no_word begun_types_none = (refl, refl)
begun_types_no_word (begun_types_one r) =
    (begun_type_no_word word_package (refl, (refl, (refl, (refl, (refl, (refl, (refl, tt))))))) refl refl r, begun_type_no_word word_import (refl, (refl, (refl, (refl, (refl, (refl, (refl, tt))))))) refl refl r)
begun_types_no_word (begun_types_more d r) =
    (type_no_word word_package (refl, (refl, (refl, (refl, (refl, (refl, (refl, tt))))))) refl refl d, type_no_word word_import (refl, (refl, (refl, (refl, (refl, (refl, (refl, tt))))))) refl refl d)
begun_types_no_word (begun_types_empty r) = (refl, refl)
begun_types_no_word (begun_types_whole d) = types_no_word d

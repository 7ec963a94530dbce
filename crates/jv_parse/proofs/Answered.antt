-- What is known where terminals are looked at for their load, and read in few levels.
use Rattle.std.proofs.Common.{◌≡◌, ◌↔◌, ℕ, ◌≤◌, ◌-◌, List, length, None, Some, Result, Ok, Err, refl, sym, ap, ◌∙◌, subst, arith}
use Rattle.std.specs.Result.{IfOk}
use Rattle.jv_tree.specs.declared.declaration.Unit.{Unit as File}
use Rattle.jv_tree.specs.DeclTree.{UnitTree, tree_of}
use Rattle.jv_grammar.specs.declared.terminal.Terminal.{Terminal}
use Rattle.jv_grammar.specs.DeclReader.{file_of}
use Rattle.jv_grammar.specs.FileLaw.{ReadTreesDerive, ShallowFilesDeriveOnce}
use Rattle.jv_grammar.specs.NestingLaw.{FewLevelsReadFiles}
use Rattle.jv_grammar.specs.Load.{IsShallow}
use Rattle.jv_grammar.specs.RefusedAt.{IsRefusedAt}
use Rattle.jv_grammar.specs.RefusedLaw.{RefusedFilesAreRefusedThere}
use Rattle.jv_grammar.proofs.Refused.{one_refused_place}
use Rattle.jv_parse.specs.declared.parse_fault.ParseFault.{ParseFault}
use Rattle.jv_parse.specs.declared.parse_fault.ParseFault.TheVariants.{TooDeep, NotInGrammar, OutOfMemory}
use Rattle.jv_tree.specs.Identifiers.{idents_unit}
use Rattle.jv_tree.specs.Numbered.{IsNumbered}
use Rattle.jv_parse.specs.Identifiers.{AreNumberedTerminals}
use Rattle.jv_parse.proofs.DeclNumbers.{numbered_file}
use Rattle.jv_parse_expr.specs.View.{left}
use Rattle.jv_parse.specs.Parse.{IsTreeOf, HasNoTree, Says, IsAnswered}
use Rattle.jv_parse.proofs.DeclIdentifiers.{few_in_file}

-- what is read in so many levels is the tree
pub tree_read : (ts : List Terminal) (n : ℕ) (u : UnitTree) → IsShallow ts → ReadTreesDerive → ShallowFilesDeriveOnce → file_of n ts ≡ Ok u → IsTreeOf ts u
tree_read ts n u s derive once h =
    let d : _ = derive ts n u h in
    record { shallow = s; derives = d.0.0; only = λ v e. once ts v u s e d.0.0; shaped = d.1 }

-- where so many levels refuse a terminal, there is no tree
pub none_read : (ts : List Terminal) (k : ℕ) → IsShallow ts → FewLevelsReadFiles → left (file_of 400 ts) ≡ Some k → HasNoTree ts
none_read ts k s few h = record { shallow = s; none = λ u d. refused u (few ts 400 u s (omega arith) d) }
  where
    none_some : None ≡ Some k → ⊥
    none_some e = cc

    refused : (u : UnitTree) → file_of 400 ts ≡ Ok u → ⊥
    refused u e = none_some (sym (ap left e) ∙ h)

-- where so many levels refuse the first of the terminals that are left, there they cease to begin a file
pub refused_place : (ts : List Terminal) (k : ℕ) → IsShallow ts → RefusedFilesAreRefusedThere → left (file_of 400 ts) ≡ Some k → (k ≤ length ts) × IsRefusedAt ts (length ts - k)
refused_place ts k s there h = by (file_of 400 ts) refl h
  where
    none_some : None ≡ Some k → ⊥
    none_some e = cc

    some_is : {n : ℕ} → Some n ≡ Some k → n ≡ k
    some_is e = cc

    by : (r : Result UnitTree (List Terminal)) → file_of 400 ts ≡ r → left r ≡ Some k → (k ≤ length ts) × IsRefusedAt ts (length ts - k)
    by (Ok u) e h' = absurd (none_some h')
    by (Err zs) e h' = subst (λ n. (n ≤ length ts) × IsRefusedAt ts (length ts - n)) (some_is h') (there 400 ts zs s (omega arith) e)

-- a result says that there is no tree, and where the terminals are refused, only where it is so
pub says_none : (ts : List Terminal) (r : Result File ParseFault) (i : ℕ) → Says ts r → IsAnswered r → (r ≡ Err (NotInGrammar i)) ↔ (HasNoTree ts × IsRefusedAt ts i)
says_none ts r i s a = (λ e. subst (Says ts) e s, λ h. refused r s a h.0 h.1)
  where
    refused : (r : Result File ParseFault) → Says ts r → IsAnswered r → HasNoTree ts → IsRefusedAt ts i → r ≡ Err (NotInGrammar i)
    refused (Ok u) s a n at = absurd (n.none (tree_of u) s.derives)
    refused (Err (TooDeep j)) s a n at = absurd (n.shallow j s.deep)
    refused (Err (NotInGrammar j)) s a n at = ap (λ k. Err (NotInGrammar k)) (one_refused_place ts j i s.1 at)
    refused (Err OutOfMemory) s a n at = absurd (a refl)

-- a tree has no more identifiers than there are terminals
pub few_identifiers : (ts : List Terminal) (n : ℕ) (r : Result File ParseFault) → length ts ≡ n → Says ts r → IfOk r (λ u. idents_unit (tree_of u) ≤ n)
few_identifiers ts n (Ok u) l h = omega (arith, l, few_in_file ts (tree_of u) h.derives)
few_identifiers ts n (Err e) l h = tt

-- a tree of numbered terminals is numbered
pub numbered_tree : (ts : List Terminal) (n : ℕ) (r : Result File ParseFault) → AreNumberedTerminals n ts → Says ts r → IfOk r (λ u. IsNumbered n (tree_of u))
numbered_tree ts n (Ok u) h s = numbered_file n ts (tree_of u) s.derives h
numbered_tree ts n (Err e) h s = tt

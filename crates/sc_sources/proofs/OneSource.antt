-- What a source with tokens comes to, by what its parse gave.
use Rattle.std.proofs.Common.{◌≡◌, ◌↔◌, ℕ, zero, suc, ◌<◌, List, [], ◌∷◌, length, slice_get, Option, None, Some, Result, Ok, Err, refl, sym, ap, subst, arith}
use Rattle.std.proofs.lemmas.List.{length-map}
use Rattle.jv_lex.specs.Source.{Tokenizes}
use Rattle.jv_lex.specs.declared.token.Token.{Token}
use Rattle.jv_tree.specs.declared.declaration.Unit.{Unit as File}
use Rattle.jv_tree.specs.DeclTree.{UnitTree}
use Rattle.jv_grammar.specs.declared.terminal.Terminal.{Terminal}
use Rattle.jv_grammar.specs.RefusedAt.{IsRefusedAt}
use Rattle.jv_grammar.specs.Load.{IsFirstDeep, Nesting, loads_from, loads_of, outside}
use Rattle.jv_parse.specs.declared.parse_fault.ParseFault.{ParseFault}
use Rattle.jv_parse.specs.declared.parse_fault.ParseFault.TheVariants.{TooDeep, NotInGrammar}
use Rattle.jv_parse.specs.Naming.{names_with, terminal_of}
use Rattle.jv_parse.specs.Parse.{HasNoTree, IsTreeOf, IsAnswered, terminals_of}
use Rattle.sc_sources.specs.Sources.{tree, fault, start_of, Reads, too_deep, no_tree, parsed}

pub ok_answered : (u : File) → IsAnswered (Ok u)
ok_answered u h = cc

deep_answered : (i : ℕ) → IsAnswered (Err (TooDeep i))
deep_answered i h = cc

none_answered : (i : ℕ) → IsAnswered (Err (NotInGrammar i))
none_answered i h = cc

-- what a parse says of a deep terminal, and of terminals without a tree
abbrev pub SaysDeep : List Terminal → Result File ParseFault → Type 0
SaysDeep ts r = IsAnswered r → (i : ℕ) → (r ≡ Err (TooDeep i)) ↔ IsFirstDeep ts i

abbrev pub SaysNone : List Terminal → Result File ParseFault → Type 0
SaysNone ts r = IsAnswered r → (i : ℕ) → (r ≡ Err (NotInGrammar i)) ↔ (HasNoTree ts × IsRefusedAt ts i)

module _ (f : ParseFault) (i : ℕ) where
  pub answered_deep : f ≡ TooDeep i → IsAnswered (Err f)
  answered_deep e = subst (λ (z : ParseFault). IsAnswered (Err z)) (sym e) (deep_answered i)

  pub answered_none : f ≡ NotInGrammar i → IsAnswered (Err f)
  answered_none e = subst (λ (z : ParseFault). IsAnswered (Err z)) (sym e) (none_answered i)

  pub deep_of : (ts : List Terminal) → f ≡ TooDeep i → SaysDeep ts (Err f) → IsFirstDeep ts i
  deep_of ts e h = (h (answered_deep e) i).0 (ap (λ (z : ParseFault). Err z) e)

  pub none_of : (ts : List Terminal) → f ≡ NotInGrammar i → SaysNone ts (Err f) → HasNoTree ts × IsRefusedAt ts i
  none_of ts e h = (h (answered_none e) i).0 (ap (λ (z : ParseFault). Err z) e)

loads_count : (before : Option Terminal) (n : Nesting) (ts : List Terminal) → length (loads_from before n ts) ≡ length ts
loads_count before n [] = refl
loads_count before n (t ∷ ts) = ap suc (loads_count (Some t) _ ts)

none_some : {x : ℕ} → None ≡ Some x → ⊥
none_some h = cc

place_below : (xs : List ℕ) (i x : ℕ) → slice_get xs i ≡ Some x → i < length xs
place_below [] i x h = absurd (none_some h)
place_below (y ∷ ys) zero x h = omega arith
place_below (y ∷ ys) (suc i) x h = omega (arith, place_below ys i x h)

-- the first deep terminal is that of a token
pub deep_below : (source : List ℕ) (names : List (List ℕ)) (ts : List Token) (i : ℕ) → IsFirstDeep (terminals_of source names ts) i → i < length ts
deep_below source names ts i f =
    omega (
      arith,
      place_below (loads_of (terminals_of source names ts)) i 201 f.deep,
      loads_count None outside (terminals_of source names ts),
      length-map ts (terminal_of source names),
    )

module _ (source : List ℕ) (old new : List (List ℕ)) (ts : List Token) (t : Tokenizes source ts) (named : new ≡ names_with source old ts) where
  pub tree_comes : (u : UnitTree) → IsTreeOf (terminals_of source new ts) u → Reads source old new (tree u)
  tree_comes u is =
      subst (λ (ns : List (List ℕ)). Reads source old ns (tree u)) (sym named)
      (parsed t (subst (λ (ns : List (List ℕ)). IsTreeOf (terminals_of source ns ts) u) named is))

  pub deep_comes : (i : ℕ) (x : Token) → IsFirstDeep (terminals_of source new ts) i → slice_get ts i ≡ Some x → Reads source old new (fault x.start 4)
  deep_comes i x f e =
      subst (λ (ns : List (List ℕ)). Reads source old ns (fault x.start 4)) (sym named)
      (too_deep t (subst (λ (ns : List (List ℕ)). IsFirstDeep (terminals_of source ns ts) i) named f) e)

  pub none_comes : (i : ℕ) → HasNoTree (terminals_of source new ts) × IsRefusedAt (terminals_of source new ts) i → Reads source old new (fault (start_of source (slice_get ts i)) 2)
  none_comes i n =
      let there : HasNoTree (terminals_of source (names_with source old ts) ts) × IsRefusedAt (terminals_of source (names_with source old ts) ts) i =
      subst (λ (ns : List (List ℕ)). HasNoTree (terminals_of source ns ts) × IsRefusedAt (terminals_of source ns ts) i) named n in
      subst (λ (ns : List (List ℕ)). Reads source old ns (fault (start_of source (slice_get ts i)) 2)) (sym named) (no_tree t there.0 there.1)

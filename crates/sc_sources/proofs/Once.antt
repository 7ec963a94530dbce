-- Sources come to one list of outcomes.
use Rattle.std.proofs.Common.{◌≡◌, ℕ, Bool, true, false, cond, List, ◌∷◌, slice_get, Some, refl, sym, ap, ◌∙◌, subst}
use Rattle.std.specs.Str.{IsUtf8, IsValidUpTo}
use Rattle.std.proofs.lemmas.Str.{utf8_valid_len-IsValidUpTo}
use Rattle.jv_lex.specs.Source.{HasBad, Tokenizes}
use Rattle.jv_lex.specs.declared.token.Token.{Token}
use Rattle.jv_lex.proofs.Sources.{follows_once, breaks_once, follows_unbroken}
use Rattle.jv_tree.specs.DeclTree.{UnitTree}
use Rattle.jv_grammar.specs.declared.terminal.Terminal.{Terminal}
use Rattle.jv_grammar.specs.Load.{IsFirstDeep}
use Rattle.jv_grammar.specs.RefusedAt.{IsRefusedAt}
use Rattle.jv_grammar.proofs.Deep.{one_first_deep}
use Rattle.jv_grammar.proofs.Refused.{one_refused_place}
use Rattle.jv_parse.specs.Naming.{names_with}
use Rattle.jv_parse.specs.Parse.{HasNoTree, IsTreeOf, terminals_of}
use Rattle.sc_sources.specs.Sources.{Outcome, tree, fault, start_of, Reads, not_utf8, bad_literal, bad_token, too_deep, no_tree, parsed, ReadsAll, nothing, next}
use Rattle.sc_sources.specs.Law.{SourcesAreReadOnce}

-- what tokens come to, once they are named
data Comes (bytes : List ℕ) (ts : List Token) (terminals : List Terminal) : Outcome → Type 0 where
  deep : {i : ℕ} {t : Token} → IsFirstDeep terminals i → slice_get ts i ≡ Some t → Comes bytes ts terminals (fault t.start 4)
  none : {i : ℕ} → HasNoTree terminals → IsRefusedAt terminals i → Comes bytes ts terminals (fault (start_of bytes (slice_get ts i)) 2)
  one : {u : UnitTree} → IsTreeOf terminals u → Comes bytes ts terminals (tree u)

same_token : {t s : Token} → Some t ≡ Some s → t ≡ s
same_token h = cc

comes_once : {bytes : List ℕ} {ts : List Token} {terminals : List Terminal} {x y : Outcome} → Comes bytes ts terminals x → Comes bytes ts terminals y → x ≡ y
comes_once {bytes} {ts} {terminals} (deep {i} {t} f e) (deep {i = j} {t = s} g d) =
    let same : t ≡ s = same_token (sym e ∙ ap (slice_get ts) (one_first_deep terminals i j f g) ∙ d) in
    ap (λ (r : Token). fault r.start 4) same
comes_once (deep {i} f e) (none n r) = absurd (n.shallow i f.deep)
comes_once (deep {i} f e) (one u) = absurd (u.shallow i f.deep)
comes_once (none n r) (deep {i} f e) = absurd (n.shallow i f.deep)
comes_once {bytes} {ts} {terminals} (none {i} n r) (none {i = j} m s) = ap (λ k. fault (start_of bytes (slice_get ts k)) 2) (one_refused_place terminals i j r s)
comes_once (none n r) (one {u} is) = absurd (n.none u is.derives)
comes_once (one is) (deep {i} f e) = absurd (is.shallow i f.deep)
comes_once (one {u} is) (none n r) = absurd (n.none u is.derives)
comes_once (one {u} is) (one {u = v} are) = ap tree (are.only u is.derives)

-- the three ways to come to an outcome: the bytes are no text, the text has a bad place, or it has tokens
data Way (bytes : List ℕ) (old new : List (List ℕ)) (x : Outcome) : Type 0 where
  no_text : {at : ℕ} → (IsUtf8 bytes → ⊥) → IsValidUpTo bytes at → new ≡ old → x ≡ fault at 1 → Way bytes old new x
  bad : {literal : Bool} {at : ℕ} → HasBad literal bytes at → new ≡ old → x ≡ fault at (cond literal 3 5) → Way bytes old new x
  tokens : {ts : List Token} → Tokenizes bytes ts → new ≡ names_with bytes old ts → Comes bytes ts (terminals_of bytes (names_with bytes old ts) ts) x → Way bytes old new x

way : {bytes : List ℕ} {old new : List (List ℕ)} {x : Outcome} → Reads bytes old new x → Way bytes old new x
way (not_utf8 n v) = no_text n v refl refl
way (bad_literal h) = bad {literal = true} h refl refl
way (bad_token h) = bad {literal = false} h refl refl
way (too_deep t f e) = tokens t refl (deep f e)
way (no_tree t n r) = tokens t refl (none n r)
way (parsed t is) = tokens t refl (one is)

ways_once : {bytes : List ℕ} {old new others : List (List ℕ)} {x y : Outcome} → Way bytes old new x → Way bytes old others y → (new ≡ others) × (x ≡ y)
ways_once {bytes} (no_text {at} n v a e) (no_text {at = bt} m w b d) =
    let same : at ≡ bt = sym (utf8_valid_len-IsValidUpTo bytes at v) ∙ utf8_valid_len-IsValidUpTo bytes bt w in
    (a ∙ sym b, e ∙ ap (λ k. fault k 1) same ∙ sym d)
ways_once (no_text n v a e) (bad h b d) = absurd (n h.utf8)
ways_once (no_text n v a e) (tokens t b c) = absurd (n t.utf8)
ways_once (bad h a e) (no_text n v b d) = absurd (n h.utf8)
ways_once (bad {literal} {at} h a e) (bad {literal = other} {at = bt} g b d) =
    let s = breaks_once h.first g.first in
    let same : fault at (cond literal 3 5) ≡ fault bt (cond other 3 5) = λ i. fault (s.places i) (cond (s.literals i) 3 5) in
    (a ∙ sym b, e ∙ same ∙ sym d)
ways_once (bad h a e) (tokens t b c) = absurd (follows_unbroken t.tokens h.first)
ways_once (tokens t a c) (no_text n v b d) = absurd (n t.utf8)
ways_once (tokens t a c) (bad h b d) = absurd (follows_unbroken t.tokens h.first)
ways_once {bytes} {old} {y = y} (tokens {ts} t a c) (tokens {ts = us} s b d) =
    let same : ts ≡ us = follows_once t.tokens s.tokens in (
      a ∙ ap (names_with bytes old) same ∙ sym b,
      comes_once c (subst (λ (zs : List Token). Comes bytes zs (terminals_of bytes (names_with bytes old zs) zs) y) (sym same) d),
    )

pub reads_once : {sources old new others : List (List ℕ)} {xs ys : List Outcome} → ReadsAll old sources new xs → ReadsAll old sources others ys → (new ≡ others) × (xs ≡ ys)
reads_once nothing nothing = (refl, refl)
reads_once {others = others} (next {sources} {middle} {x} {xs} r rs) (next {middle = between} {x = y} {xs = ys} q qs) =
    let first = ways_once (way r) (way q) in
    let rest = reads_once rs (subst (λ (ns : List (List ℕ)). ReadsAll ns sources others ys) (sym first.0) qs) in
    (rest.0, λ i. first.1 i ∷ rest.1 i)

pub sources_once : SourcesAreReadOnce
sources_once sources old new others xs ys a b = reads_once a b

use Rattle.std.proofs.Common.{◌≡◌, ℕ, ◌-◌, not, cond, List, [], ◌∷◌, ◌++◌, length, Option, None, sym, ap, ◌∙◌, subst, arith, rules, refl, true≢false}
use Rattle.std.specs.Str.{chars, IsUtf8}
use Rattle.std.proofs.lemmas.List.{append-nil}
use Rattle.std.proofs.lemmas.Bool.Decides.{Decides-eqb}
use Rattle.jv_lex.specs.Text.{begins_literal}
use Rattle.jv_lex.specs.Source.{Follows, nothing, gap, IsBad, Breaks, here, behind_gaps, behind_token, Tokenizes, IsFaultOf}
use Rattle.jv_lex.proofs.Fronts.{width}
use Rattle.jv_lex.proofs.Sources.{gap_cut, gap_shorter, token_shorter}
use Rattle.jv_lex.proofs.Scans.{place_of-chars, chars-some, chars-none, add_token, fault_found, tokens_placed}
use Rattle.jv_lex.specs.declared.token.Token.{Token}
use Rattle.jv_lex.specs.declared.token.TokenKind.{TokenKind}
use Rattle.jv_lex.proofs.scanner.lex.Goals as goal

tokens_of : {text source rest : List ℕ} {before : Option TokenKind} {items : List Token} → text ≡ source → IsUtf8 source
    → ((us : List Token) → Follows (length text) before rest us → Follows (length text) None (chars text) (items ++ us)) → rest ≡ [] → Tokenizes source items
tokens_of {text} {source} {rest} {before} {items} whole u so_far e =
    let all : Follows (length text) None (chars text) (items ++ []) = so_far [] (subst (λ r. Follows (length text) before r []) (sym e) nothing) in
    record { utf8 = u; tokens = subst (λ t. Follows (length t) None (chars t) items) whole (subst (Follows (length text) None (chars text)) (append-nil items) all) }

pub loop-text-smaller-in-Some : goal.loop-text-smaller-in-Some
loop-text-smaller-in-Some c = gap_shorter (chars c.loop-text.rest.now) (chars c.in-Some.behind.now) c.in-Some.ensures

pub loop-text-preserved-in-Some : goal.loop-text-preserved-in-Some
loop-text-preserved-in-Some c =
    let i = c.loop-text.invariant in
    let utf8 : IsUtf8 c.in-Some.behind.now = search rules in
    let g = gap_cut (chars c.loop-text.rest.now) (chars c.in-Some.behind.now) c.in-Some.ensures in
    let shorter = width c.loop-text.rest.now c.in-Some.behind.now (g.first ∷ g.others) i.utf8 utf8 g.cut in
    record {
      whole = i.whole;
      utf8 = utf8;
      within = let l = i.within in omega arith;
      tokens = λ us d. i.tokens us (gap c.in-Some.ensures d);
      breaks = λ literal at d. i.breaks literal at (behind_gaps c.in-Some.ensures d);
    }

pub returns-in_default-next_token-clause-fault : goal.returns-in_default-next_token-clause-fault
returns-in_default-next_token-clause-fault c =
    let i = c.loop-text.invariant in
    let rest = c.loop-text.rest.now in
    let literal = begins_literal (chars rest) in
    let at = length c.in-Ok.text.now - length rest in
    let bad : IsBad c.loop-text.before (chars rest) = record {
      some = chars-some rest i.utf8 (λ e. true≢false (sym ((Decides-eqb (length rest) 0).1 e) ∙ sym c.loop-text-test.ensures));
      no_gap = c.in_default.ensures;
      no_token = λ w left k t m. c.in_default-next_token.ensures w left k t m;
    } in
    let first = i.breaks literal at (here bad refl (place_of-chars (length c.in-Ok.text.now) rest i.utf8)) in
    subst (IsFaultOf c.args.source.now) (sym c.fault_at.ensures)
    (fault_found c.args.source.now at literal c.in-Ok.ensures.cases.1 (subst (λ t. Breaks (length t) literal at None (chars t)) i.whole first))

pub overflow_sub-end : goal.overflow_sub-end
overflow_sub-end c =
    let i = c.loop-text.invariant in
    let utf8 : IsUtf8 c.in-Some-next_token.behind.now = search rules in
    let t = c.in-Some-next_token.ensures.0 in
    let shorter = width c.loop-text.rest.now c.in-Some-next_token.behind.now t.0 i.utf8 utf8 t.1.cut in
    let l = i.within in omega arith

pub loop-text-preserved : goal.loop-text-preserved
loop-text-preserved c =
    let i = c.loop-text.invariant in
    let utf8 : IsUtf8 c.in-Some-next_token.behind.now = search rules in
    let t = c.in-Some-next_token.ensures.0 in
    let shorter = width c.loop-text.rest.now c.in-Some-next_token.behind.now t.0 i.utf8 utf8 t.1.cut in
    let made : Token = record { kind = c.in-Some-next_token.kind; start = length c.in-Ok.text.now - length c.loop-text.rest.now; end = length c.in-Ok.text.now - length c.in-Some-next_token.behind.now } in
    record {
      whole = i.whole;
      utf8 = utf8;
      within = let l = i.within in omega arith;
      tokens = λ us d. add_token (length c.in-Ok.text.now) c.loop-text.before c.in-Some-next_token.kind (chars c.in-Ok.text.now) c.loop-text.rest.now c.in-Some-next_token.behind.now t.0
          c.loop-text.tokens.items c.push.new.self.items us i.utf8 utf8 t.1 c.in-Some-next_token.ensures.1 i.tokens
          (c.push.ensures.items ∙ ap (λ b. cond b (c.loop-text.tokens.items ++ made ∷ []) c.loop-text.tokens.items) (c.is_err.ensures.negation ∙ ap not c.if-is_err.false)) d;
      breaks = λ literal at d. i.breaks literal at (behind_token t.1 c.in-Some-next_token.ensures.1 d);
    }

pub loop-text-smaller : goal.loop-text-smaller
loop-text-smaller c =
    let t = c.in-Some-next_token.ensures.0 in
    token_shorter (chars c.loop-text.rest.now) t.0 (chars c.in-Some-next_token.behind.now) c.in-Some-next_token.kind t.1

pub returns-clause-tokens : goal.returns-clause-tokens
returns-clause-tokens c = tokens_of c.loop-text.invariant.whole c.in-Ok.ensures.cases.1 (c.loop-text.invariant.tokens) (chars-none c.loop-text.rest.now ((Decides-eqb (length c.loop-text.rest.now) 0).0 (sym c.loop-text-test.ensures)))

pub returns-clause-placed : goal.returns-clause-placed
returns-clause-placed c = tokens_placed c.args.source.now c.loop-text.tokens.items
    (tokens_of c.loop-text.invariant.whole c.in-Ok.ensures.cases.1 (c.loop-text.invariant.tokens) (chars-none c.loop-text.rest.now ((Decides-eqb (length c.loop-text.rest.now) 0).0 (sym c.loop-text-test.ensures))))

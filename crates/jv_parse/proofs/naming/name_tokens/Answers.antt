use Rattle.std.proofs.Common.{◌≡◌, ℕ, ◌+◌, ◌≤◌, ◌++◌, ◌∷◌, [], length, take, drop, get_or, sym, ap, ◌∙◌, arith}
use Rattle.std.proofs.lemmas.List.{take-append-drop}
use Rattle.jv_lex.specs.declared.token.Token.{Token}
use Rattle.jv_lex.specs.declared.token.TokenKind.TheVariants as k
use Rattle.jv_parse.specs.Naming.{names_with}
use Rattle.jv_parse.proofs.Numbers.{next_named, names_grow, names_append, take-next, on_err}
use Rattle.jv_parse.proofs.naming.name_tokens.Goals as goal

pub returns-in-Err-clause-err : goal.returns-in-Err-clause-err
returns-in-Err-clause-err c =
    (take c.loop-token.token-index c.args.tokens.now, drop c.loop-token.token-index c.args.tokens.now, sym (take-append-drop c.loop-token.token-index c.args.tokens.now), c.in-Err.ensures.err ∙ (c.loop-token.invariant.0).0)

pub returns-in_err-push-clause-err : goal.returns-in_err-push-clause-err
returns-in_err-push-clause-err c =
    let i : ℕ = c.loop-token.token-index in
    let x : Token = get_or c.args.tokens.now i (record { kind = k.Ident; start = 0; end = 0 }) in
    let split : c.args.tokens.now ≡ (take i c.args.tokens.now ++ x ∷ []) ++ drop (i + 1) c.args.tokens.now =
    sym (take-append-drop (i + 1) c.args.tokens.now) ∙ ap (λ front. front ++ drop (i + 1) c.args.tokens.now) (take-next c.args.tokens.now i (record { kind = k.Ident; start = 0; end = 0 }) c.loop-token-test.true) in
    let named : c.name_token.new.names ≡ names_with c.args.source.now c.args.names.now (take i c.args.tokens.now ++ x ∷ []) =
    c.in-Ok.ensures.named ∙ ap (λ ns. names_with c.args.source.now ns (x ∷ [])) (c.loop-token.invariant.0).0
    ∙ sym (names_append c.args.source.now c.args.names.now (take i c.args.tokens.now) (x ∷ [])) in
    on_err c.from_residual.result (take i c.args.tokens.now ++ x ∷ [], drop (i + 1) c.args.tokens.now, split, named)

pub loop-token-preserved : goal.loop-token-preserved
loop-token-preserved c =
    let i : ℕ = c.loop-token.token-index in
    let d : Token = record { kind = k.Ident; start = 0; end = 0 } in
    let below : _ = c.loop-token-test.true in
    let n : _ = next_named c.args.source.now c.args.names.now c.loop-token.names c.name_token.new.names c.args.tokens.now i c.loop-token.terminals.items d c.in-Ok.terminal c.loop-token.invariant.0 below c.in-Ok.ensures.named c.in-Ok.ensures.known c.in-Ok.ensures.terminal in
    let g : length c.name_token.new.names ≤ length c.loop-token.names + 1 = names_grow c.args.source.now c.loop-token.names c.name_token.new.names (get_or c.args.tokens.now i d) c.in-Ok.ensures.named in
    let l : length c.loop-token.names ≤ length c.args.names.now + i = c.loop-token.invariant.1 in
    let items : c.push.new.self.items ≡ c.loop-token.terminals.items ++ c.in-Ok.terminal ∷ [] = c.in_ok-push.ensures.items in (
      (n.0, items ∙ n.1, n.2),
      omega (arith, g, l),
    )

use Rattle.std.proofs.Common.{◌≡◌, ◌+◌, List, ◌++◌, ◌∷◌, [], refl, ap, ◌∙◌, length, length-append}
use Rattle.std.specs.Prelude.{All}
use Rattle.std.proofs.lemmas.List.Elements.{All-push, All-same}
use Rattle.sg_turn_tests.proofs.tests.list_of.Goals as goal

one_more : {A : Type 0} (P : A → Type 0) (new xs : List A) (x : A) → new ≡ xs ++ x ∷ [] → All P xs → P x → (length new ≡ length xs + 1) × All P new
one_more P new xs x e all p = (ap length e ∙ length-append xs (x ∷ []), All-same P new (xs ++ x ∷ []) e (All-push P xs x all p))

pub loop-index-preserved : goal.loop-index-preserved
loop-index-preserved c = let i = c.loop-index.invariant in
    let m = one_more (λ n. n.0 ≡ c.args.number) c.push.new.self.items c.loop-index.notes.items _ c.in_ok-push.ensures.items i.all refl in
    record { count = m.0 ∙ ap (λ n. n + 1) i.count; all = m.1 }

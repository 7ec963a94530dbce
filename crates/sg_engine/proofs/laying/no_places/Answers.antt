use Rattle.std.proofs.Common.{◌≡◌, ℕ, [], ◌∷◌, List, length, replicate, sym, ◌∙◌, subst}
use Rattle.sg_engine.specs.Laying.{IsLaying}
use Rattle.sg_engine.specs.Tree.{paths_of}
use Rattle.sg_engine.proofs.Growing.{paths_of-length}
use Rattle.sg_engine.proofs.Laid.{none_laid}
use Rattle.sg_engine.proofs.laying.no_places.Goals as goal

pub returns : goal.returns
returns g c =
    let nodes = c.args.tree.now.nodes.items in
    let same : c.in_ok-places.places.items ≡ replicate c.len.result 0 = c.in_ok-places.ensures.items_if_clones_equal (λ y e. e) in
    let many : c.len.result ≡ length (paths_of nodes) = c.len.ensures.len ∙ sym (paths_of-length nodes) in
    subst (λ (r : List ℕ). IsLaying (paths_of nodes) ([] ∷ []) r) (sym same) (none_laid (paths_of nodes) c.len.result many ((c.requires.1).0).first)

-- What follows of files where they are told.
use Rattle.std.proofs.Common.{◌≡◌, Option, None, Some, IfSome, subst}

pub IfSome-all : {X : Type 0} (o : Option X) (P : X → Type 0) → ((x : X) → P x) → IfSome o P
IfSome-all None P f = tt
IfSome-all (Some x) P f = f x

pub IfSome-map : {X : Type 0} (o : Option X) (P Q : X → Type 0) → ((x : X) → P x → Q x) → IfSome o P → IfSome o Q
IfSome-map None P Q f h = h
IfSome-map (Some x) P Q f h = f x h

pub IfSome-map2 : {X : Type 0} (o : Option X) (P Q R : X → Type 0) → ((x : X) → P x → Q x → R x) → IfSome o P → IfSome o Q → IfSome o R
IfSome-map2 None P Q R f h k = h
IfSome-map2 (Some x) P Q R f h k = f x h k

pub at_files : {X : Type 0} (o : Option X) (P : X → Type 0) (x : X) → IfSome o P → o ≡ Some x → P x
at_files o P x h e = subst (λ v. IfSome v P) e h

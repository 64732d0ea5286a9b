-- A struct with no field that a program sees: the value by which it is stored, and that nothing is owned by its fields.
pub use Rattle.std.proofs.Common.{List, [], ◌∷◌, refl}
pub use seplogic.Ra.Ura.{Ura}
pub use mir.Val.{Val, vstruct, vnil}
pub use types.Logic.{Logic}
pub use types.Kit.{Goal, Step, step, Item, ‵, ◌$◌, fjoin, fpack, feq_i}
pub use denote.RattleType.{RattleType, Valss}
pub use denote.Steps.{nothing}
pub use denote.Struct.Struct.{Struct, within}

abbrev pub unseen : Val
unseen = vstruct vnil

abbrev pub fieldless : RattleType
fieldless = Struct (record { name = []; args = []; types = []; fields = [] })

pub owns_nothing : {M : Type 1} {𝓤 : Ura M} {𝓛 : Logic 𝓤} {K : Type 0} {Γ : List (Item 𝓤)} {G : Goal 𝓤 𝓛.H} → K → Step K 𝓛 (‵ (fieldless.own_val tt (unseen ∷ [])) ∷ Γ) G Γ G
owns_nothing t = step (λ s.
    nothing t $ feq_i t (List Val) (unseen ∷ []) (unseen ∷ []) refl $ fjoin t $
    fpack t (Valss []) (within (record { name = []; args = []; types = []; fields = [] }) tt (unseen ∷ [])) tt $ s)

-- The machine value of a handle, and what stands in it.
use Rattle.std.proofs.Common.{◌≡◌, ℕ, List, [], ◌∷◌, ◌++◌, refl, ap, sym, subst}
use mathlib.Core.Bool.{Bool, true, false}
use Rattle.std.specs.Prelude.{Option, None, Some}
use seplogic.Ra.Ura.{Ura}
use mir.Val.{Val, vptr, vbool, vstruct, vcons, vnil, of_list}
use base.Logic.{id⊢, via, never, never_e, fst∗}
use mir.Raw.{raw as bare}
use base.Fml.{Fml, ftrue, ffalse}
use types.Logic.{Logic, sem}
use types.Kit.{Item, Goal, Seq, Step, step, ‵, given, ◌$◌, move, drop, use1, learn, fsplit, fjoin, fpick, fpack}
use types.Kit.{rewrite, feq_i, feq_l}
use denote.RattleType.{RattleType, Valss}
use denote.Builtin.{RawPtr, bool}
use denote.RawPtr.{Ptr, block_ptr, null_ptr, ptr_val, in_a_block}
use denote.Param.{layout}
use denote.Steps.{nothing}
use denote.Struct.Struct.{within}
use denote.Struct.Owning.{shape}
use Rattle.libc.specs.Heap.{chunk}
use Rattle.std.specs.Box.Ownership.{box_owns}
use Rattle.lsp_judge_c.specs.contracts.session.Session as session
use Rattle.lsp_judge_c.specs.Held.{held}
use Rattle.lsp_judge_c.specs.declared.session.Session.{Session}
use Rattle.lsp_judge_c.specs.contracts.handle.LspJudgeSession as handle
use Rattle.lsp_judge_c.specs.declared.handle.LspJudgeSession.{LspJudgeSession}

abbrev pub word : Ptr → Bool → Val
word p z = vstruct (vcons (ptr_val p) (vcons (vbool z) vnil))

-- a session at p, and its block
abbrev pub kept : Session → Ptr → Fml
kept x p = box_owns (λ ty ptr. chunk ty ptr) session.the_row p x

module _ {M : Type 1} {𝓤 : Ura M} {𝓛 : Logic 𝓤} {K : Type 0} {Γ : List (Item 𝓤)} {G : Goal 𝓤 𝓛.H} where
  pub handle_in : K → (p : Ptr) (z : Bool) (x : Option Session)
      → Step K 𝓛 (‵ ((handle.the_row).own_val (record { at = p; is_open = z; value = x }) (word p z ∷ [])) ∷ Γ) G
      (‵ (held z p x) ∷ Γ) G
  handle_in t p z x = step (λ s.
      nothing t $ feq_i t (List Val) (vbool z ∷ []) (vbool z ∷ []) refl $ fjoin t $
      feq_i t (List Val) (ptr_val p ∷ []) (ptr_val p ∷ []) refl $ fjoin t $
      feq_i t (List Val) (word p z ∷ []) (word p z ∷ []) refl $ fjoin t $
      fpack t (Valss (RawPtr ∷ bool ∷ [])) (within (shape handle.the_type) (p, (z, tt)) (word p z ∷ []))
      (ptr_val p ∷ [], (vbool z ∷ [], tt)) $ fjoin t $ s)

  pub handle_out : K → (d : LspJudgeSession) (vs : List Val)
      → (vs ≡ word d.at d.is_open ∷ [] → Seq K 𝓛 (‵ (held d.is_open d.at d.value) ∷ Γ) G)
      → Seq K 𝓛 (‵ ((handle.the_row).own_val d vs) ∷ Γ) G
  handle_out t d vs k =
      fsplit t $ fpick t (λ vss. fsplit t $ feq_l t (λ ev. fsplit t $ feq_l t (λ ep. fsplit t $ feq_l t (λ ez. drop t $
      k (subst (λ (us : List Val). vs ≡ vstruct (of_list (ptr_val d.at ∷ (us ++ []))) ∷ []) ez
      (subst (λ (ps : List Val). vs ≡ vstruct (of_list (ps ++ (vss.1.0 ++ []))) ∷ []) ep ev))))))

  lost : K → Seq K 𝓛 (‵ ffalse ∷ Γ) G
  lost t = use1 𝓛 (given ⊥ (‵ ftrue)) (via 𝓤 (never 𝓤) (id⊢ 𝓤 (never 𝓤)) (never_e 𝓤 _)) $ learn t (λ z. absurd z)

  -- a handle is closed and keeps nothing, or is open and keeps a box
  pub held_cases : K → (z : Bool) (p : Ptr) (x : Option Session)
      → (z ≡ false → x ≡ None → Seq K 𝓛 (‵ ftrue ∷ Γ) G)
      → ((b o : ℕ) (y : Session) → z ≡ true → p ≡ block_ptr b o → x ≡ Some y → Seq K 𝓛 (‵ (kept y (block_ptr b o)) ∷ Γ)
      G)
      → Seq K 𝓛 (‵ (held z p x) ∷ Γ) G
  held_cases t false p None shut kept_in = shut refl refl
  held_cases t false p (Some y) shut kept_in = lost t
  held_cases t true p None shut kept_in = lost t
  held_cases t true p (Some y) shut kept_in =
      in_a_block t p (kept y) (fst∗ 𝓤 (never 𝓤) (sem 𝓛 (chunk (bare (layout session.the_row)) null_ptr))) (λ b o e.
      kept_in b o y refl e refl)

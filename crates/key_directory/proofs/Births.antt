-- Two directories that open stand for a new user.
use Rattle.std.proofs.Common.{◌≡◌, ℕ, List, [], refl, sym, ◌∙◌, subst}
use Rattle.std.specs.Prelude.{Some, None}
use Rattle.std.specs.FinMap as map
use Rattle.std.proofs.lemmas.Option.{none-some}
use Rattle.tree_model.specs.declared.blobs.Blob.{Blob}
use Rattle.tree_model.specs.declared.places.Class.TheVariants.{Ce as ForCe}
use Rattle.tree_model.specs.declared.places.Slot.TheVariants.{Current, Cx}
use Rattle.tree_model.specs.declared.sites.Site.{Site}
use Rattle.tree_model.specs.declared.sites.Site.TheVariants.{De, Ce, Temp}
use Rattle.tree_model.specs.Dir.{Files}
use Rattle.tree_model.specs.Held.{held_in}
use Rattle.tree_model.specs.Named.{named_at}
use Rattle.tree_model.specs.Order.{slot_cmp, slot_total, slot_exact}
use Rattle.tree_model.proofs.Maps.{get-insert_same, get-insert_other}
use Rattle.journal_model.specs.declared.entries.Birth.{Birth}
use Rattle.journal_model.specs.Made.{key_of}
use Rattle.journal_model.specs.Users.{new_secrets}
use Rattle.key_directory.specs.Opens.{opens}
use Rattle.key_directory.specs.VaultLaws.{two_directories, OpenBoth, LawOfBirths}
use Rattle.key_directory.specs.Vaults.{Vault, class_of, tag_at, NamesOwn, OpensAs, OpensAt, secret_at}

-- a directory that opens with no secret to the right key
opens-right : (vault : Vault) (user : ℕ) (site : Site) (files : Files) (key : List ℕ)
    → opens vault.entries vault.level (held_in files) [] ≡ Some key → OpensAs vault user site files [] key
opens-right vault user site files key is = record {
  opened = key;
  opens_to = is;
  right = λ sure. refl;
  made = λ match other. absurd (other refl);
}

module _ (vault : Vault) (user : ℕ) (birth : Birth) (de ce : Files) (both : OpenBoth vault user birth de ce) where
  opens-site : (site : Site)
      → OpensAt vault user site (two_directories de ce site)
      (secret_at (record { birth = birth; secrets = new_secrets }) site)
      (key_of vault.seed (class_of site) user birth)
  opens-site De = opens-right vault user De de _ both.de_opens
  opens-site (Ce Current) =
      subst (λ secret. OpensAt vault user (Ce Current) (Some ce) secret (key_of vault.seed ForCe user birth))
      (sym (get-insert_same slot_total slot_exact map.empty Current []))
      (opens-right vault user (Ce Current) ce _ both.ce_opens)
  opens-site (Ce (Cx n)) =
      subst (λ secret. OpensAt vault user (Ce (Cx n)) None secret (key_of vault.seed ForCe user birth))
      (sym (get-insert_other slot_total slot_exact map.empty Current [] (Cx n) (λ e. cc)
      ∙ map.get-empty slot_cmp (Cx n))) tt
  opens-site Temp = tt

  own-site : (site : Site) → NamesOwn vault (tag_at user site) (two_directories de ce site)
  own-site De blob names = both.de_own blob names
  own-site (Ce Current) blob names = both.ce_own blob names
  own-site (Ce (Cx n)) blob names = absurd (none-some blob names)
  own-site Temp blob names = absurd (none-some blob names)

  apart-sites : (site other : Site) (blob : Blob) → named_at (two_directories de ce site) ≡ Some blob
      → named_at (two_directories de ce other) ≡ Some blob → site ≡ other
  apart-sites De De blob names also = refl
  apart-sites De (Ce Current) blob names also = absurd (both.differ blob names also)
  apart-sites De (Ce (Cx n)) blob names also = absurd (none-some blob also)
  apart-sites De Temp blob names also = absurd (none-some blob also)
  apart-sites (Ce Current) De blob names also = absurd (both.differ blob also names)
  apart-sites (Ce Current) (Ce Current) blob names also = refl
  apart-sites (Ce Current) (Ce (Cx n)) blob names also = absurd (none-some blob also)
  apart-sites (Ce Current) Temp blob names also = absurd (none-some blob also)
  apart-sites (Ce (Cx n)) other blob names also = absurd (none-some blob names)
  apart-sites Temp other blob names also = absurd (none-some blob names)

pub births-stand : LawOfBirths
births-stand vault user birth de ce both = record {
  opens = opens-site vault user birth de ce both;
  own = own-site vault user birth de ce both;
  apart = apart-sites vault user birth de ce both;
}

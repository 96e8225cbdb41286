-- What a job's input defines as its output.
use Rattle.step_core.specs.declared.jobs.JobInput.{JobInput}
use Rattle.step_core.specs.declared.jobs.JobInput.TheVariants.{AppId, Seal, Unseal}
use Rattle.step_core.specs.declared.jobs.JobOutput.{JobOutput}
use Rattle.step_core.specs.declared.jobs.JobOutput.TheVariants.{AppId as IsAppId, Sealed, Opened}
use Rattle.journal_model.specs.Hashes.{app_id_of, wrap_key_of}
use Rattle.seal_model.specs.Sealed.{sealed_text}
use Rattle.journal_model.specs.Sealed.{unsealed_key}

-- the app id, the key sealed under its wrapping key, or what this opens
abbrev pub output_of : JobInput → JobOutput
output_of (AppId discard secret) = IsAppId (app_id_of discard secret)
output_of (Seal discard secret nonce key) = Sealed (sealed_text (wrap_key_of (app_id_of discard secret)) nonce key)
output_of (Unseal discard secret sealed) = Opened (unsealed_key (wrap_key_of (app_id_of discard secret)) sealed)

mod Names
mod Prefixes
mod LawsOfWorlds
mod SentencesHandles
mod SentencesBlocks
mod SentencesState

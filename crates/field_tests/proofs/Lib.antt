mod FoundKeys
